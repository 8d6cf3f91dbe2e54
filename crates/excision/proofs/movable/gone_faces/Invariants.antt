use Rattle.excision.specs.Left.{is_gone}
use Rattle.excision.proofs.Gone.{AreDeadTo}
use Rattle.excision.proofs.movable.gone_faces.Given as goal

abbrev pub invariant-loop-face : goal.invariant-loop-face
invariant-loop-face g l = AreDeadTo (is_gone l.cells l.log.steps) l.cell l.gone.items l.face-iterator
