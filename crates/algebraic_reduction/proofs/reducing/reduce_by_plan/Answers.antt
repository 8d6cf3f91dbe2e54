use Rattle.algebraic_reduction.proofs.Going.{goes_refl, goes_trans}
use Rattle.algebraic_reduction.proofs.reducing.reduce_by_plan.Goals as goal

pub loop-done-init : goal.loop-done-init
loop-done-init g c = record { state = c.requires.state; goes = goes_refl _ _ }

pub loop-done-preserved : goal.loop-done-preserved
loop-done-preserved g c =
    let e = c.in_ok-reduce_degree.ensures in
    let i = c.loop-done.invariant in
    record { state = e.state; goes = goes_trans _ _ _ _ _ _ i.goes e.goes }
