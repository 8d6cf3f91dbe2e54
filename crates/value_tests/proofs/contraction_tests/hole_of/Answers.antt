use Rattle.std.proofs.Common.{sym, ap, ◌∙◌, subst, rules}
use Rattle.cell_complex.specs.Sorted.{IsSortedCells}
use Rattle.cell_complex.specs.RelativeComplex.{IsClosedList}
use Rattle.map_checks.proofs.Hollow.{sorted_cells}
use Rattle.value_tests.proofs.Faces.{closed_cells}
use Rattle.value_tests.proofs.contraction_tests.hole_of.Goals as goal

pub contract_value-requires : goal.contract_value-requires
contract_value-requires c =
    let sorted : IsSortedCells c.cells.result.now = subst IsSortedCells (sym c.cells.ensures.cells) (sorted_cells c.in-Ok.faces c.cells.ensures.set) in
    let closed : IsClosedList c.cells.result.now = subst IsClosedList (sym (c.cells.ensures.cells ∙ ap (λ s. s.cells) c.in-Ok.ensures.cells)) (closed_cells c.in-Some.set.cells) in
    search rules
