use Rattle.std.proofs.Common.{map, [], arith}
use Rattle.cell_complex.specs.Moved.{moved}
use Rattle.map_checks.proofs.Moving.{mapped}
use Rattle.map_checks.proofs.moves.all_moved.Goals as goal

pub returns : goal.returns
returns c = λ _. mapped (map (moved c.args.by.now)) c.args.from.now c.args.to.now [] [] (omega arith) (λ k l. c.loop-i.invariant k (omega arith))
