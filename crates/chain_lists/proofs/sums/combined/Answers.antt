use Rattle.std.proofs.Common.{◌<◌, length, arith, ap}
use Rattle.chains.specs.Terms.{coefficient}
use Rattle.chains.proofs.Boundary.{products_none, products_next, products_skip}
use Rattle.chain_lists.proofs.sums.combined.Goals as goal
use Rattle.chain_lists.proofs.sums.combined.Goals.{then-place-chains+in_ok-push_scaled, else-place-chains}

pub loop-index-init : goal.loop-index-init
loop-index-init g c = λ at. products_none g.row.P c.args.chains.now c.args.coefficients.now _ at c.new-products.ensures.items

pub loop-index-preserved : goal.loop-index-preserved
loop-index-preserved g c = λ at.
    let l : c.loop-index.index < length c.args.coefficients.now = omega (arith, c.loop-index-test.true, c.len-index-end.ensures.count) in
    let t = c.term-generator.result in
    let e = c.term-generator.ensures.value in
    elim c.if-place-chains.branch [
      | then-place-chains+in_ok-push_scaled w ↦ rw w.products-is (products_next _ _ c.args.coefficients.now _ t _ at _ _ l e w.if-place-chains.true w.index-chains-place.is (c.loop-index.invariant at) (w.in_ok-push_scaled.ensures at))
      | else-place-chains w ↦ products_skip _ _ c.args.coefficients.now t _ at _ _ l e w.if-place-chains.false (c.loop-index.invariant at) (ap (λ v. coefficient v.items at) w.products-is)
    ]
