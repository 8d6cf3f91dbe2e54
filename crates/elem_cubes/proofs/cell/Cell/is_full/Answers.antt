use Rattle.std.proofs.Common.{ap, ◌∙◌, eqb}
use Rattle.elem_cubes.proofs.Keeping.{full_kept}
use Rattle.elem_cubes.proofs.cell.Cell.is_full.Goals as goal

pub returns : goal.returns
returns c = ap (eqb c.self.inside.axes) c.all_axes.ensures ∙ full_kept c.self.inside.ends c.self.inside.len c.self.inside.axes c.args.self.now c.self.invariant c.self.view_is
