use Rattle.face_reduction.proofs.Cofacing.{WokenSo}
use Rattle.face_reduction.proofs.cofaces.wake_faces.Given as goal

abbrev pub invariant-loop-place : goal.invariant-loop-place
invariant-loop-place g l = WokenSo l.tallies l.boundary l.initial.waiting l.waiting l.place
