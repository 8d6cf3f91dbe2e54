use Rattle.std.proofs.Common.{◌∙◌}
use Rattle.cube_sets.specs.Sets.{holds}
use Rattle.excision.proofs.Sharing.{looked_first}
use Rattle.excision.proofs.excising.has_vertex_in.Goals as goal

pub loop-face-init : goal.loop-face-init
loop-face-init c = looked_first (holds c.args.faces.now) c.args.cell.now c.into_iter-face-iterator.result (c.into_iter-face-iterator.ensures.into_iter_gives ∙ c.closure-face-items.ensures)
