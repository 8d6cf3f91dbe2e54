use Rattle.std.proofs.Common.{◌≡◌, ◌∙◌, ◌%◌, ◌<◌, ◌≤◌, ℕ, List, length, arith, ap}
use Rattle.std.proofs.lemmas.Result.{IfOk-weaker}
use Rattle.chains.specs.Terms.{coefficient}
use Rattle.chains.specs.ChainComplex.{boundary}
use Rattle.chains.proofs.Boundary.{products_none, products_next, products_skip, products_end}
use Rattle.chains.proofs.complex.boundary_in.Goals as goal
use Rattle.chains.proofs.complex.boundary_in.Goals.{then-place-boundaries+in_ok-push_scaled, else-place-boundaries}

pub loop-index-init : goal.loop-index-init
loop-index-init g c = λ at. products_none g.row.P c.args.boundaries.now c.args.chain.now _ at c.clear.ensures.items

pub loop-index-preserved : goal.loop-index-preserved
loop-index-preserved g c = λ at.
    let l : c.loop-index.index < length c.args.chain.now = omega (arith, c.loop-index-test.true, c.len-index-end.ensures.count) in
    let t = c.term-generator.result in
    let e = c.term-generator.ensures.value in
    elim c.if-place-boundaries.branch [
      | then-place-boundaries+in_ok-push_scaled w ↦ rw w.products-is (products_next _ _ c.args.chain.now _ t _ at _ _ l e w.if-place-boundaries.true w.index-boundaries-place.is (c.loop-index.invariant at) (w.in_ok-push_scaled.ensures at))
      | else-place-boundaries w ↦ products_skip _ _ c.args.chain.now t _ at _ _ l e w.if-place-boundaries.false (c.loop-index.invariant at) (ap (λ v. coefficient v.items at) w.products-is)
    ]

pub returns : goal.returns
returns g c =
    let past : length c.args.chain.now ≤ c.loop-index.index = omega (arith, c.loop-index-test.false, c.len-index-end.ensures.count) in
    IfOk-weaker c.sum.result
    (λ (b : List (ℕ × ℕ)). (at : ℕ) → coefficient b at ≡ coefficient c.as_mut_slice.result.now at % g.row.P)
    (λ (b : List (ℕ × ℕ)). (at : ℕ) → coefficient b at ≡ boundary c.args.boundaries.now (coefficient c.args.chain.now) at % g.row.P)
    (λ b s at. products_end _ _ c.args.chain.now _ at _ _ past (c.loop-index.invariant at) (s at ∙ ap (λ us. coefficient us at % g.row.P) c.as_mut_slice.ensures.value))
    c.sum.ensures.sum
