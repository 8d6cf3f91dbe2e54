use Rattle.elem_cubes.proofs.Keeping.{lower_kept}
use Rattle.elem_cubes.proofs.cell.Cell.low_ends.Goals as goal

pub returns : goal.returns
returns c = lower_kept c.self.inside.ends c.self.inside.len c.self.inside.axes c.args.self.now c.self.invariant c.self.view_is
