use Rattle.std.proofs.Common.{arith, ap, ◌∙◌, ◌<◌, ◌+◌, ◌*◌, ⊎_elim, inr, length}
use Rattle.field_mod.proofs.Modular.{same_by}
use Rattle.chains.specs.Terms.{coefficient}
use Rattle.algebraic_reduction.specs.Kept.{a_at}
use Rattle.algebraic_reduction.proofs.Spreading.{scaled_more}
use Rattle.algebraic_reduction.proofs.descending.spread.Goals as goal

pub loop-index-preserved : goal.loop-index-preserved
loop-index-preserved g c =
    let i = c.loop-index.invariant in
    let e = c.in_ok-spread_one.ensures in
    let l : c.loop-index.index < length c.args.chain.now = omega (arith, c.loop-index-test.true, c.len-index-end.ensures.count) in
    record {
      left = λ h n. scaled_more g.row.P c.args.scale c.loop-index.index h c.mul-scaled.result (coefficient c.args.left.now.items h) (coefficient c.loop-index.left.items h) (coefficient c.spread_one.new.left.items h) c.args.chain.now c.term-generator.result l c.term-generator.ensures.value c.mul-scaled.ensures.value (i.left h n) (same_by g.row.P 0 0 _ _ (ap (λ v. v + g.row.P * 0) (e.left h n)));
      dropped = λ h k s. e.dropped h k s ∙ i.dropped h k s;
      pending = λ j a b. scaled_more g.row.P c.args.scale c.loop-index.index (a_at c.args.parts.now.steps.items j) c.mul-scaled.result (coefficient c.args.pending.now j) (coefficient c.loop-index.pending j) (coefficient c.spread_one.new.pending j) c.args.chain.now c.term-generator.result l c.term-generator.ensures.value c.mul-scaled.ensures.value (i.pending j a b) (e.pending j a b);
      inside = λ j nz. ⊎_elim (λ m. i.inside j m) (λ r. inr r) (e.inside j nz);
    }
