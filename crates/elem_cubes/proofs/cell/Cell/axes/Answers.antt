use Rattle.elem_cubes.proofs.Keeping.{axes_kept, axes_few, parts_kept}
use Rattle.elem_cubes.proofs.cell.Cell.axes.Goals as goal

pub returns-clause-axes : goal.returns-clause-axes
returns-clause-axes c = axes_kept c.self.inside.ends c.self.inside.len c.self.inside.axes c.args.self.now c.self.invariant c.self.view_is

pub returns-clause-parts : goal.returns-clause-parts
returns-clause-parts c = parts_kept c.self.inside.ends c.self.inside.len c.self.inside.axes c.args.self.now c.self.invariant c.self.view_is

pub returns-clause-few : goal.returns-clause-few
returns-clause-few c = axes_few c.self.inside.ends c.self.inside.len c.self.inside.axes c.args.self.now c.self.invariant c.self.view_is
