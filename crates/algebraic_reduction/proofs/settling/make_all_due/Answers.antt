use Rattle.std.proofs.Common.{◌≡◌, ℕ, ◌<◌, arith, length, true, subst}
use Rattle.std.specs.Ordering.{nat_cmp}
use Rattle.std.specs.BTreeSet.{contains}
use Rattle.field_mod.specs.Modular.{NonZero}
use Rattle.algebraic_reduction.specs.Maps.{rows}
use Rattle.algebraic_reduction.proofs.DueSteps.{making_all_next}
use Rattle.algebraic_reduction.proofs.settling.make_all_due.Goals as goal

pub loop-place-preserved : goal.loop-place-preserved
loop-place-preserved g c =
    let p = c.args.parts.now in
    let e = c.in_ok-make_due.ensures in
    let l : c.loop-place.place < length c.args.chain.now = omega (arith, c.loop-place-test.true, c.len-place-end.ensures.count) in
    let added = subst (λ (t : ℕ × ℕ). (j : ℕ) → j < c.args.count → t.0 < length p.complex.boundaries → NonZero g.row.P ((rows p.steps.items).at j t.0) → contains nat_cmp c.make_due.new.due j ≡ true) c.term-generator.ensures.value e.added in
    making_all_next g.row.P (length p.complex.boundaries) (rows p.steps.items) c.args.chain.now c.args.count c.loop-place.place (contains nat_cmp c.args.due.now) (contains nat_cmp c.loop-place.due) (contains nat_cmp c.make_due.new.due) c.loop-place.invariant l e.kept added e.below
