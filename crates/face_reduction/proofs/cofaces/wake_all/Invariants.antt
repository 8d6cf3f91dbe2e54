use Rattle.std.proofs.Common.{ℕ, ◌<◌}
use Rattle.face_reduction.specs.Cofaces.{WaitsIfFree}
use Rattle.face_reduction.proofs.cofaces.wake_all.Given as goal

abbrev pub invariant-loop-face : goal.invariant-loop-face
invariant-loop-face l = (k : ℕ) → k < l.face → WaitsIfFree l.tallies l.waiting k
