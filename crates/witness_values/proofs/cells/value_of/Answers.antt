use Rattle.std.proofs.Common.{◌∙◌, sym, subst}
use Rattle.cell_complex.specs.Sorted.{IsSortedCells}
use Rattle.witness_values.proofs.Sides.{in_set, cubes_named, value_is, value_sorted}
use Rattle.witness_values.proofs.cells.value_of.Goals as goal

pub value_at-requires-clause-cell : goal.value_at-requires-clause-cell
value_at-requires-clause-cell g c = let w = c.requires.witness in in_set c.args.sides.now c.args.map.now.named c.args.set.now.cells c.args.part.now w.given w.tables w.are c.args.cell c.requires.cell c.cell.result c.cell.ensures

pub value_at-requires-clause-named : goal.value_at-requires-clause-named
value_at-requires-clause-named g c = let w = c.requires.witness in cubes_named c.args.sides.now c.args.map.now.named c.args.set.now.cells c.args.part.now w.given w.tables w.are c.args.cell c.requires.cell

pub of_sorted-requires : goal.of_sorted-requires
of_sorted-requires g c = let w = c.requires.witness in subst IsSortedCells (sym c.deref.ensures.value) (value_sorted c.args.sides.now c.args.map.now.named c.args.set.now.cells c.args.part.now w.given w.tables w.are c.args.cell c.requires.cell c.cell.result c.in_ok-cells.cells.items c.cell.ensures c.in_ok-cells.ensures)

pub returns : goal.returns
returns g c = λ G W w. c.in_ok-value.ensures ∙ c.deref.ensures.value ∙ value_is c.args.sides.now c.args.map.now.named c.args.set.now.cells c.args.part.now G W w c.args.cell c.requires.cell c.cell.result c.in_ok-cells.cells.items c.cell.ensures c.in_ok-cells.ensures
