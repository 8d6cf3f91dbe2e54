use Rattle.std.proofs.Common.{◌≡◌, ◌<◌, ℕ, length}
use Rattle.field_mod.specs.Modular.{Same}
use Rattle.algebraic_reduction.specs.Kept.{steps_of}
use Rattle.algebraic_reduction.specs.Laws.{left_of}
use Rattle.algebraic_reduction.specs.State.{IsState, GoesOn}
use Rattle.algebraic_reduction.proofs.reducing.reduce_parts.Given as goal

abbrev pub invariant-loop-b : goal.invariant-loop-b
invariant-loop-b g l = record {
  state : IsState g.row.P l.parts.complex l.parts.places.items l.parts.steps.items;
  goes : GoesOn l.fn.parts.complex l.parts.complex l.fn.parts.steps.items l.parts.steps.items;
  count : l.count ≡ length l.parts.complex.boundaries;
  empty : (h : ℕ) → h < l.b → (k : ℕ) → Same g.row.P (left_of g.row.P l.parts.complex (steps_of l.parts.steps.items) h k) 0;
}
