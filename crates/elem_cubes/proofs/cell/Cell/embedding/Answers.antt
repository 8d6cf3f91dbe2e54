use Rattle.std.proofs.Common.{◌∙◌}
use Rattle.elem_cubes.proofs.Keeping.{len_kept}
use Rattle.elem_cubes.proofs.cell.Cell.embedding.Goals as goal

pub returns-clause-embedding : goal.returns-clause-embedding
returns-clause-embedding c = c.from.ensures ∙ len_kept c.self.inside.ends c.self.inside.len c.self.inside.axes c.args.self.now c.self.invariant c.self.view_is
