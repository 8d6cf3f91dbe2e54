use Rattle.std.proofs.Common.{◌≡◌, ◌≤◌, ◌∙◌, sym, ap, ◌++◌, length, subst}
use Rattle.cube_sets.specs.declared.fault.TheConstants.{CUBES}
use Rattle.grid_files.specs.Kept.{AreMembers}
use Rattle.grid_files.proofs.Keeping.{few_kept}
use Rattle.grid_files.proofs.cells.Cells.into_vec.Goals as goal

pub returns-clause-few : goal.returns-clause-few
returns-clause-few c = λ cells h few.
    let listed = c.self.inside.listed.items in
    let distinct = c.self.inside.distinct.keys in
    let all : c.extend_from_slice.new.self.items ≡ listed ++ distinct = c.in_ok-extend_from_slice.ensures.items ∙ ap (λ l. listed ++ l) c.as_slice.ensures.keys in
    subst (λ l. length l ≤ CUBES) (sym all) (few_kept listed distinct cells c.self.invariant c.as_slice.ensures.unique (subst (λ l. AreMembers l cells) (sym c.self.view_is) h) few)
