use Rattle.map_parts.proofs.Selecting.{AreImagesSoFar}
use Rattle.map_parts.proofs.images.images_of.Given as goal

abbrev pub invariant-loop-place : goal.invariant-loop-place
invariant-loop-place g l = AreImagesSoFar g.row.P l.fn.selector l.selector l.cells l.all l.place l.images.items
