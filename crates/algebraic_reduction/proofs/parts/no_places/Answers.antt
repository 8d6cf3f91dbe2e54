use Rattle.std.proofs.Common.{arith, ap, ◌∙◌, ◌++◌, ◌∷◌, [], ℕ, Option, length, length-append}
use Rattle.algebraic_reduction.proofs.Start.{places_more}
use Rattle.algebraic_reduction.proofs.parts.no_places.Goals as goal

pub loop-index-preserved : goal.loop-index-preserved
loop-index-preserved c = record {
  count = omega (arith, simp length-append at (ap length c.in_ok-push.ensures.items), c.loop-index.invariant.count);
  none = places_more _ _ c.loop-index.invariant.none (c.in_ok-push.ensures.items ∙ ap (λ (o : Option ℕ). c.loop-index.places.items ++ o ∷ []) c.none.ensures);
}
