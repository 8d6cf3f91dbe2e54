use Rattle.std.proofs.Common.{◌∙◌, ap, arith, length}
use Rattle.std.specs.List.{list_all}
use Rattle.elem_cubes.specs.Order.{cell_cmp}
use Rattle.cube_sets.specs.Sorted.{has}
use Rattle.cube_sets.specs.Sets.{is_member}
use Rattle.cube_sets.specs.Closures.{cells_of}
use Rattle.cube_maps.specs.CubeMaps.{value_of}
use Rattle.map_checks.proofs.Leaving.{value_sorted}
use Rattle.map_checks.proofs.Narrowing.{value_few, value_members, same_cells}
use Rattle.map_checks.proofs.value.cells_of_value.Goals as goal

pub of_cells-requires-clause-few : goal.of_cells-requires-clause-few
of_cells-requires-clause-few c =
    omega (arith, c.in_ok-values.ensures.len, ap length c.in-Some.ensures.some.1, value_few c.args.map.now c.dimension-dimension.ensures.map c.args.cube.now)

pub of_cells-requires-clause-alike : goal.of_cells-requires-clause-alike
of_cells-requires-clause-alike c =
    let e = c.in_ok-values.ensures.items ∙ c.in-Some.ensures.some.1 in
    (λ i. list_all (is_member (c.dimension-dimension.ensures.dimension i)) (e i)) ∙ value_members c.args.map.now c.dimension-dimension.ensures.map c.args.cube.now

pub returns-in-Ok-clause-cells : goal.returns-in-Ok-clause-cells
returns-in-Ok-clause-cells c =
    let e = c.in_ok-values.ensures.items ∙ c.in-Some.ensures.some.1 in
    let is = c.dimension-dimension.ensures.map in
    ap (λ m. m.cells) c.in-Ok.ensures.cells
    ∙ ap cells_of (same_cells c.in_ok-cubes.cubes (value_of c.args.map.now.named c.args.cube.now) c.len-count.ensures.set (value_sorted c.args.map.now is c.args.cube.now) (λ d. c.in_ok-cubes.ensures.members d ∙ ap (λ l. has cell_cmp l d) e))
