use Rattle.std.proofs.Common.{arith}
use Rattle.witness_scanning.proofs.Chains.{no_star, no_coefficient_here, has_term}
use Rattle.witness_scanning.proofs.terms.term.Goals as goal
use Rattle.witness_scanning.proofs.terms.term.Goals.{then-coefficient-eq0-via-then-coefficient-eq0, then-coefficient-eq0-via-else-coefficient-eq0+then-coefficient-from}

pub returns-in_default-marked_number : goal.returns-in_default-marked_number
returns-in_default-marked_number c =
    no_star c.args.modulus c.args.bytes.now c.in-Some.coefficient.now c.in-Some.behind.now c.in-Some.ensures c.in_default-marked_number.ensures

pub returns-then-coefficient-eq0 : goal.returns-then-coefficient-eq0
returns-then-coefficient-eq0 c =
    no_coefficient_here c.args.modulus c.args.bytes.now c.in-Some.coefficient.now c.in-Some.behind.now c.value-coefficient.result c.in-Some.ensures c.value-coefficient.ensures (omega arith)
    (λ a b. elim c.then-coefficient-eq0.branch [ then-coefficient-eq0-via-then-coefficient-eq0 w ↦ omega arith | then-coefficient-eq0-via-else-coefficient-eq0+then-coefficient-from w ↦ omega arith ])

pub returns : goal.returns
returns c =
    has_term c.args.modulus c.args.bytes.now c.in-Some.coefficient.now c.in-Some.behind.now c.in-Some-marked_number.number.now c.in-Some-marked_number.rest.now c.value-coefficient.result
    c.in-Some.ensures c.in-Some-marked_number.ensures c.value-coefficient.ensures (omega arith) (omega arith) (omega arith)
