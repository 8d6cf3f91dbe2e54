use Rattle.algebraic_reduction.specs.State.{IsState, GoesOn}
use Rattle.algebraic_reduction.proofs.reducing.reduce_by_plan.Given as goal

abbrev pub invariant-loop-done : goal.invariant-loop-done
invariant-loop-done g l = record {
  state : IsState g.row.P l.parts.complex l.parts.places.items l.parts.steps.items;
  goes : GoesOn l.initial.parts.complex l.parts.complex l.initial.parts.steps.items l.parts.steps.items;
}
