use Rattle.cube_sets.specs.Sets.{holds}
use Rattle.excision.proofs.Sharing.{LookedTo}
use Rattle.excision.proofs.excising.has_vertex_in.Given as goal

abbrev pub invariant-loop-face : goal.invariant-loop-face
invariant-loop-face l = LookedTo (holds l.faces) l.cell l.face-iterator
