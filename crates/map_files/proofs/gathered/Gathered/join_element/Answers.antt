use Rattle.std.proofs.Common.{List, sym, ◌∙◌, subst}
use Rattle.std.specs.List.{list_all}
use Rattle.elem_cubes.specs.Cells.{Factor}
use Rattle.cube_sets.proofs.Sorting.{and_true}
use Rattle.map_files.specs.Items.{fits_cube}
use Rattle.map_files.specs.Openings.{AreCubes}
use Rattle.map_files.proofs.Gathering.{long_left, long_from, are_cubes}
use Rattle.map_files.proofs.gathered.Gathered.join_element.Goals as goal

pub returns-in-Err : goal.returns-in-Err
returns-in-Err c = λ m q vs g ic vals fit.
    long_left m q vs (long_from q c.in-Err.field-0 (c.in-Err.ensures.cell q ic (and_true (fits_cube q) (list_all fits_cube vs) fit).0))

pub returns-in-Ok : goal.returns-in-Ok
returns-in-Ok c = λ m q vs g ic vals fit.
    c.join_cubes.ensures m q vs g (subst (λ (l : List (List Factor)). AreCubes q vs c.in-Ok.cube l) (sym c.deref.ensures.value)
    (are_cubes q vs c.in-Ok.cube c.args.values.now.cells.items (c.in-Ok.ensures.cell q ic (and_true (fits_cube q) (list_all fits_cube vs) fit).0) fit (sym vals.long ∙ c.if-values.false) (vals.cells c.if-values.false)))
