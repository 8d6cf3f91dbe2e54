use Rattle.std.proofs.Common.{arith}
use Rattle.witness_scanning.proofs.Whole.{no_z, no_degree_behind, other_degree, degree_here}
use Rattle.witness_scanning.proofs.lines.cycle_degree.Goals as goal
use Rattle.witness_scanning.proofs.lines.cycle_degree.Goals.{then-degree-from-via-then-degree-from, then-degree-from-via-else-degree-from+then-degree-from-2}

pub returns-in_default : goal.returns-in_default
returns-in_default c = no_z c.args.low c.args.top c.args.bytes.now c.in_default.ensures

pub returns-in_default-number_before : goal.returns-in_default-number_before
returns-in_default-number_before c = no_degree_behind c.args.low c.args.top c.args.bytes.now c.in-Some.behind.now c.in-Some.ensures c.in_default-number_before.ensures

pub returns-then-degree-from : goal.returns-then-degree-from
returns-then-degree-from c =
    other_degree c.args.low c.args.top c.args.bytes.now c.in-Some.behind.now c.in-Some-number_before.degree c.in-Some-number_before.rest.now (omega arith) c.in-Some.ensures c.in-Some-number_before.ensures
    (λ a b. elim c.then-degree-from.branch [ then-degree-from-via-then-degree-from w ↦ omega arith | then-degree-from-via-else-degree-from+then-degree-from-2 w ↦ omega arith ])

pub returns : goal.returns
returns c =
    degree_here c.args.low c.args.top c.args.bytes.now c.in-Some.behind.now c.in-Some-number_before.degree c.in-Some-number_before.rest.now (omega arith) c.in-Some.ensures c.in-Some-number_before.ensures
    (omega arith) (omega arith)
