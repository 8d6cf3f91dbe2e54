use Rattle.std.proofs.Common.{◌≡◌, ◌∙◌, refl, sym, ap, subst, arith, List, length, ◌≤◌, Err}
use Rattle.std.proofs.lemmas.Result.{err_from_is_err_and}
use Rattle.elem_cubes.specs.Cells.{Factor}
use Rattle.cube_sets.specs.Closures.{cells_of}
use Rattle.cell_complex.specs.declared.fault.CellsFault.TheVariants.{TooManyCells}
use Rattle.cell_complex.specs.Sorted.{IsSortedCells}
use Rattle.cell_complex.specs.RelativeComplex.{is_relative}
use Rattle.cell_complex.proofs.Deciding.{has_cell}
use Rattle.cell_complex.proofs.Counting.{relative_cells, faces_count, subset_count, pair_count, listing_of}
use Rattle.cell_complex.proofs.pairs.relative_within.Goals as goal

pub returns-in_err-subset-clause-many : goal.returns-in_err-subset-clause-many
returns-in_err-subset-clause-many c e =
    let p = err_from_is_err_and c.from_residual.result c.from_residual.ensures.1 in
    let w = c.in_err-subset.was in
    let h : c.faces_within.result ≡ Err TooManyCells = cc in
    omega (arith, c.faces_within.ensures.many h, subset_count c.args.x.now.cells c.args.a.now.cells (cells_of c.args.x.now.cells) (cells_of c.args.a.now.cells) refl refl)

pub returns-in_err-faces-clause-many : goal.returns-in_err-faces-clause-many
returns-in_err-faces-clause-many c e =
    let p = err_from_is_err_and c.from_residual-in_err-faces.result c.from_residual-in_err-faces.ensures.1 in
    let w = c.in_err-faces.was in
    let e' : c.from_residual-in_err-faces.result ≡ Err TooManyCells = e in
    let h : c.faces_within-2.result ≡ Err TooManyCells = cc in
    omega (arith, c.faces_within-2.ensures.many h, faces_count c.args.x.now.cells c.args.a.now.cells (cells_of c.args.x.now.cells) (cells_of c.args.a.now.cells) refl refl)

pub returns-then-room-len-clause-many : goal.returns-then-room-len-clause-many
returns-then-room-len-clause-many c e =
    let n = pair_count c.args.x.now.cells c.args.a.now.cells c.in_ok-faces.faces c.in_ok-subset.subset c.in_ok-faces.ensures.cells c.in_ok-subset.ensures.cells in
    omega (arith, n, ap length c.in_ok-cells.ensures, c.len.ensures.count, c.len-2.ensures.count, c.if-room-len.true)

pub returns-clause-cells : goal.returns-clause-cells
returns-clause-cells c =
    listing_of (is_relative c.args.x.now.cells c.args.a.now.cells) c.of_points.result
    (subst IsSortedCells (sym c.of_points.ensures) c.len-2.ensures.sorted)
    (λ q. ap (λ (l : List (List Factor)). has_cell l q) (c.of_points.ensures ∙ c.in_ok-cells.ensures)
    ∙ relative_cells c.args.x.now.cells c.args.a.now.cells c.in_ok-faces.faces c.in_ok-subset.subset c.in_ok-faces.ensures.cells c.in_ok-subset.ensures.cells q)

pub returns-clause-pair : goal.returns-clause-pair
returns-clause-pair c = record { x = c.args.x.now.cells; a = c.args.a.now.cells; listing = returns-clause-cells c }

pub returns-clause-few : goal.returns-clause-few
returns-clause-few c =
    let n = pair_count c.args.x.now.cells c.args.a.now.cells c.in_ok-faces.faces c.in_ok-subset.subset c.in_ok-faces.ensures.cells c.in_ok-subset.ensures.cells in
    let few : length c.in_ok-subset.subset ≤ c.args.limit = omega (arith, c.in_ok-subset.ensures.few, ap length c.in_ok-subset.ensures.cells) in
    omega (arith, n, few, ap length c.in_ok-cells.ensures, c.len.ensures.count, c.len-2.ensures.count, c.if-room-len.false)
