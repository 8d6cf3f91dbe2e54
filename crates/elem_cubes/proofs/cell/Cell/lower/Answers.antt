use Rattle.elem_cubes.proofs.Keeping.{lower_kept, corner_kept}
use Rattle.elem_cubes.proofs.cell.Cell.lower.Goals as goal

pub invariant_of-result : goal.invariant_of-result
invariant_of-result c = corner_kept c.self.inside.ends c.self.inside.len c.self.inside.axes c.args.self.now c.self.invariant c.self.view_is

pub returns : goal.returns
returns c = lower_kept c.self.inside.ends c.self.inside.len c.self.inside.axes c.args.self.now c.self.invariant c.self.view_is
