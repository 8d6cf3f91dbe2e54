use Rattle.std.proofs.Common.{refl, subst, arith, List}
use Rattle.std.specs.List.{Contains}
use Rattle.elem_cubes.specs.Cells.{Factor}
use Rattle.carrier_tests.proofs.Asked.{is_cell}
use Rattle.carrier_tests.proofs.selector_tests.image_at.Goals as goal

pub image-requires : goal.image-requires
image-requires c =
    let here = is_cell c.args.selector.now.carrying.domain c.args.cell.now (subst (λ (cells : List (List Factor)). Contains cells c.args.cell.now) c.domain_cells.ensures (c.in-Some.ensures.found.0 refl)) in
    ((omega arith), ((omega arith), ((omega arith), here)))
