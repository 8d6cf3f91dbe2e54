use Rattle.std.proofs.Common.{refl, true}
use Rattle.map_files.proofs.LongCorners.{long_added}
use Rattle.map_files.proofs.values.Values.add.Goals as goal

pub returns-in-Err : goal.returns-in-Err
returns-in-Err c = λ vs v is ic fit. long_added c.args.self.now (record { cells = c.args.self.now.cells; long = true }) vs v c.in-Err.field-0 is (c.in-Err.ensures.cell v ic fit) refl
