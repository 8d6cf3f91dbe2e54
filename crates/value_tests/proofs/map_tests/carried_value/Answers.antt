use Rattle.std.proofs.Common.{refl, subst, arith, List}
use Rattle.std.specs.List.{Contains}
use Rattle.elem_cubes.specs.Cells.{Factor}
use Rattle.value_tests.proofs.Faces.{is_cell}
use Rattle.value_tests.proofs.map_tests.carried_value.Goals as goal

pub value-requires : goal.value-requires
value-requires c = (
  (omega arith),
  is_cell c.args.carrier.now.domain c.args.cell.now (subst (λ (cells : List (List Factor)). Contains cells c.args.cell.now) c.domain_cells.ensures (c.in-Some.ensures.found.0 refl)),
)
