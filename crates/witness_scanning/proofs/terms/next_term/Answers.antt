use Rattle.std.proofs.Common.{sym, ◌∙◌}
use Rattle.std.proofs.lemmas.Bool.{true≢false}
use Rattle.witness_scanning.proofs.Chains.{not_above}
use Rattle.witness_scanning.proofs.terms.next_term.Goals as goal

pub returns-then-is_above : goal.returns-then-is_above
returns-then-is_above c = record {
  term = c.in-Some.ensures;
  above = λ low l. (c.is_above.ensures low c.in-Some.ensures.number l c.in-Some.ensures.written).0 c.if-is_above.true;
}

pub returns-else-is_above : goal.returns-else-is_above
returns-else-is_above c =
    not_above c.args.modulus c.args.last.now c.args.bytes.now c.in-Some.coefficient c.in-Some.number.now c.in-Some.rest.now c.in-Some.ensures
    (λ low l q. true≢false (sym ((c.is_above.ensures low c.in-Some.ensures.number l c.in-Some.ensures.written).1 q) ∙ c.if-is_above.false))
