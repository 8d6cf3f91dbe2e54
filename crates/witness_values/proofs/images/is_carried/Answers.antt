use Rattle.std.proofs.Common.{◌∙◌, ◌-◌, ◌<◌, ℕ, List, length, sym, ap, subst, arith}
use Rattle.std.specs.List.{Contains}
use Rattle.std.proofs.lemmas.Bool.{false≢true}
use Rattle.elem_cubes.specs.Cells.{Factor}
use Rattle.elem_cubes.specs.Laws.{cell_at}
use Rattle.witness_values.proofs.Imaging.{carried_more}
use Rattle.witness_values.proofs.images.is_carried.Goals as goal

pub returns-then-not-there : goal.returns-then-not-there
returns-then-not-there g c = (
  (λ f. absurd (false≢true f)),
  (λ w.
      let l : c.loop-place.place < length c.args.chain.now = omega (arith, c.loop-place-test.true, c.len-place-end.ensures.count) in
      let e = c.cell_of.ensures ∙ ap (λ n. cell_at c.args.cells.now (n - 1)) (ap (λ (t : ℕ × ℕ). t.0) c.term-number.ensures.value) in
      absurd (false≢true (sym c.if-not-there.true ∙ c.has-there.ensures.1 (subst (λ (q : List Factor). Contains c.args.value.now q) (sym e) (w c.loop-place.place l))))),
)

pub loop-place-preserved : goal.loop-place-preserved
loop-place-preserved g c =
    let e = c.cell_of.ensures ∙ ap (λ n. cell_at c.args.cells.now (n - 1)) (ap (λ (t : ℕ × ℕ). t.0) c.term-number.ensures.value) in
    carried_more c.args.cells.now c.args.value.now c.args.chain.now c.loop-place.place c.loop-place.invariant (subst (λ (q : List Factor). Contains c.args.value.now q) e (c.has-there.ensures.0 c.if-not-there.false))
