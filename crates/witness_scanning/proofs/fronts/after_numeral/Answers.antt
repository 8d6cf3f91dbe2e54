use Rattle.std.proofs.Common.{◌≡◌, ◌++◌, ◌∙◌, List, ℕ, MatchOption, subst, arith}
use Rattle.witness_laws.specs.Lines.{numeral}
use Rattle.witness_laws.proofs.Numerals.{printed}
use Rattle.witness_scanning.specs.Fronts.{BeginsOtherwise}
use Rattle.witness_scanning.proofs.fronts.after_numeral.Goals as goal

pub returns : goal.returns
returns c =
    let e : c.as_bytes.result.now ≡ numeral c.args.number = c.as_bytes.ensures.value ∙ c.format.ensures.text ∙ printed c.args.number (omega arith) in
    subst (λ (f : List ℕ). MatchOption c.after.result (BeginsOtherwise c.args.bytes.now f) (λ rest. c.args.bytes.now ≡ f ++ rest.now)) e c.after.ensures
