use Rattle.std.proofs.Common.{take}
use Rattle.face_reduction.specs.Cofaces.{AddsAt}
use Rattle.face_reduction.proofs.cofaces.change_faces.Given as goal

abbrev pub invariant-loop-place : goal.invariant-loop-place
invariant-loop-place g l = AddsAt (take l.place l.boundary) l.one l.number l.initial.tallies l.tallies
