use Rattle.elem_cubes.proofs.Keeping.{len_kept}
use Rattle.elem_cubes.proofs.cell.Cell.len.Goals as goal

pub returns-clause-len : goal.returns-clause-len
returns-clause-len c = len_kept c.self.inside.ends c.self.inside.len c.self.inside.axes c.args.self.now c.self.invariant c.self.view_is
