use Rattle.std.proofs.Common.{◌∙◌, sym, ap, nat_lt, subst}
use Rattle.cube_sets.specs.declared.fault.TheConstants.{CUBES}
use Rattle.grid_files.specs.Kept.{AreMembers}
use Rattle.grid_files.proofs.Keeping.{many_apart}
use Rattle.grid_files.proofs.cells.Cells.are_too_many.Goals as goal

pub returns : goal.returns
returns c = λ cells h.
    ap (nat_lt CUBES) c.len.ensures.len
    ∙ many_apart c.self.inside.listed.items c.self.inside.distinct.keys cells c.self.invariant c.len.ensures.unique (subst (λ l. AreMembers l cells) (sym c.self.view_is) h)
