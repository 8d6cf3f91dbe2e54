use Rattle.std.proofs.Common.{ap, ◌∙◌, sym, ℕ, List, [], ◌∷◌, ◌++◌, ◌%◌, ◌<◌, length, arith}
use native.Mathlib.Nat.{zero-mod}
use Rattle.chains.specs.Terms.{coefficient}
use Rattle.algebraic_reduction.specs.State.{place_at}
use Rattle.algebraic_reduction.proofs.MapSteps.{left_kept, others_kept, left_skipped, none_from, some_from}
use Rattle.algebraic_reduction.proofs.descending.left_terms.Goals as goal
use Rattle.algebraic_reduction.proofs.descending.left_terms.Goals.{then-is_none+in_ok-push, else-is_none}

pub loop-index-preserved : goal.loop-index-preserved
loop-index-preserved g c =
    let i = c.loop-index.invariant in
    let l : c.loop-index.index < length c.args.chain.now = omega (arith, c.loop-index-test.true, c.len-index-end.ensures.count) in
    let t = c.term-generator.ensures.value in
    elim c.if-is_none.branch [
      | then-is_none+in_ok-push w ↦
          let none = sym c.place_of.ensures ∙ none_from c.place_of.result c.is_none.result c.is_none.ensures w.if-is_none.true in
          let e = ap (λ v. v.items) w.terms-is ∙ w.in_ok-push.ensures.items in
          record {
            left = left_kept c.args.places.now c.args.chain.now c.loop-index.terms.items c.if-is_none.terms.items c.loop-index.index l i.left (e ∙ ap (λ (u : ℕ × ℕ). c.loop-index.terms.items ++ u ∷ []) t);
            others = others_kept c.args.places.now c.term-generator.result c.loop-index.terms.items c.if-is_none.terms.items i.others none e;
          }
      | else-is_none w ↦
          let some = some_from c.place_of.result c.is_none.result c.is_none.ensures w.if-is_none.false in
          rw w.terms-is record {
            left = left_skipped c.args.places.now c.args.chain.now c.loop-index.terms.items c.loop-index.index some.0 l i.left (ap (λ (u : ℕ × ℕ). place_at c.args.places.now u.0) (sym t) ∙ sym c.place_of.ensures ∙ some.1);
            others = i.others;
          }
    ]

pub returns-clause-others : goal.returns-clause-others
returns-clause-others g c h i s = c.in_ok-left.ensures.sum h ∙ ap (λ (t : List (ℕ × ℕ)). coefficient t h % g.row.P) c.deref.ensures.value ∙ ap (λ v. v % g.row.P) (c.loop-index.invariant.others h i s) ∙ zero-mod g.row.P
