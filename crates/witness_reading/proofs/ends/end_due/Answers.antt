use Rattle.std.proofs.Common.{◌≡◌, length, false}
use Rattle.std.specs.Prelude.{◌==◌}
use Rattle.witness_reading.proofs.Ending.{goes_on}
use Rattle.witness_reading.proofs.ends.end_due.Goals as goal

pub returns-else-is_empty-clause-err : goal.returns-else-is_empty-clause-err
returns-else-is_empty-clause-err c =
    let e : (length c.in-Some.behind.now == 0) ≡ false = cc in
    goes_on c.args.bytes.now c.in-Some.behind.now c.in-Some.ensures e
