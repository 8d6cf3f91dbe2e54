use Rattle.std.proofs.Common.{◌≡◌, ◌∙◌, sym, subst, arith, List, true}
use Rattle.elem_cubes.specs.Cells.{Factor}
use Rattle.cube_sets.specs.Closures.{is_cell_of}
use Rattle.cell_complex.specs.Sorted.{IsSortedCells}
use Rattle.acyclic_values.specs.Values.{IsValueAt}
use Rattle.chain_selector.specs.Selections.{Selection}
use Rattle.chain_selector.proofs.Values.{sorted_value}
use Rattle.chain_selector.proofs.selector.Selector.value.Goals as goal

pub value-requires : goal.value-requires
value-requires g c = ((omega arith), subst (λ (v : Selection). is_cell_of v.carrying.domain c.args.cell.now ≡ true) (sym c.self.view_is) c.requires)

pub of_sorted-requires : goal.of_sorted-requires
of_sorted-requires g c =
    subst IsSortedCells (sym c.deref.ensures.value)
    (sorted_value g.row.P c.self.inside.carrier c.dimension-dimension.ensures.carrier c.args.cell.now (subst (λ (v : Selection). is_cell_of v.carrying.domain c.args.cell.now ≡ true) (sym c.self.view_is) c.requires) c.in_ok-cells.cells.items c.in_ok-cells.ensures)

pub returns : goal.returns
returns g c =
    subst (λ (v : Selection). IsValueAt v.carrying.map v.carrying.domain c.args.cell.now c.in_ok-value.value) c.self.view_is
    (subst (λ (xs : List (List Factor)). IsValueAt c.self.inside.carrier.map c.self.inside.carrier.domain c.args.cell.now xs) (sym (c.in_ok-value.ensures ∙ c.deref.ensures.value)) c.in_ok-cells.ensures)
