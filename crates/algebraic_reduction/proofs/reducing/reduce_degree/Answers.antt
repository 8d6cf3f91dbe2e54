use Rattle.algebraic_reduction.proofs.Going.{goes_refl, goes_trans}
use Rattle.algebraic_reduction.proofs.reducing.reduce_degree.Goals as goal

pub loop-place-init : goal.loop-place-init
loop-place-init g c = record { state = c.requires.state; goes = goes_refl _ _ }

pub loop-place-preserved : goal.loop-place-preserved
loop-place-preserved g c =
    let e = c.in_ok-make_turn.ensures in
    let i = c.loop-place.invariant in
    record { state = e.state; goes = goes_trans _ _ _ _ _ _ i.goes e.goes }
