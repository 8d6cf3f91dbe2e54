use Rattle.std.proofs.Common.{arith, ap, sym, ◌∙◌, ◌≡◌, ◌<◌, ℕ, List, length, false}
use Rattle.std.specs.Prelude.{is_some}
use Rattle.std.proofs.lemmas.List.{take_all}
use Rattle.chains.specs.Terms.{coefficient}
use Rattle.algebraic_reduction.specs.State.{place_at}
use Rattle.algebraic_reduction.proofs.Going.{is_free}
use Rattle.algebraic_reduction.proofs.MapSteps.{off_more}
use Rattle.algebraic_reduction.proofs.descending.is_off_steps.Goals as goal

pub loop-index-preserved : goal.loop-index-preserved
loop-index-preserved g c =
    let l : c.loop-index.index < length c.args.chain.now = omega (arith, c.loop-index-test.true, c.len-index-end.ensures.count) in
    let f : is_some c.place_of.result ≡ false = let q = c.is_some.ensures in let r = c.if-is_some.false in cc in
    off_more c.args.places.now c.args.chain.now c.loop-index.index l c.loop-index.invariant
    (ap (λ (u : ℕ × ℕ). place_at c.args.places.now u.0) (sym c.term-generator.ensures.value) ∙ sym c.place_of.ensures ∙ is_free c.place_of.result f)

pub returns : goal.returns
returns g c t h i s =
    ap (λ (ts : List (ℕ × ℕ)). coefficient ts h) (sym (take_all c.loop-index.index c.args.chain.now (omega (arith, c.loop-index-test.false, c.len-index-end.ensures.count))))
    ∙ c.loop-index.invariant h i s
