use Rattle.std.proofs.Common.{◌≡◌, ap, ◌∙◌, arith, length}
use Rattle.cube_sets.specs.Closures.{cells_of}
use Rattle.witness_laws.specs.Inputs.{all_cells}
use Rattle.witness_writing.proofs.Counting.{relative_inside}
use Rattle.witness_writing.proofs.sections.put_section.Goals as goal

pub put_homotopies-requires : goal.put_homotopies-requires
put_homotopies-requires g c =
    let e : c.in_ok-all.all ≡ all_cells c.args.x.now.cells c.args.a.now.cells = c.in_ok-all.ensures ∙ ap cells_of c.in_ok-set.ensures in (
      (omega arith),
      (
        (omega (arith, ap length c.deref-4.ensures.value, c.requires.cells, ap length c.in_ok-cells.ensures)),
        (relative_inside c.args.x.now.cells c.args.a.now.cells c.in_ok-all.all c.in_ok-cells.cells e c.in_ok-cells.ensures, (omega (arith, ap length e, c.requires.few))),
      ),
    )
