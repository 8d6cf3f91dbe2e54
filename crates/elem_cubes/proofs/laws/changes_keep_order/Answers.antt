use Rattle.elem_cubes.proofs.Changing.{changes_keep_order}
use Rattle.elem_cubes.proofs.laws.changes_keep_order.Goals as goal

pub returns : goal.returns
returns c = changes_keep_order
