use Rattle.std.proofs.Common.{ap, arith, length, List, subst, sym}
use Rattle.elem_cubes.specs.Cells.{Factor}
use Rattle.cube_sets.specs.Closures.{cells_of}
use Rattle.map_checks.specs.Faults.{AreNamed}
use Rattle.witness_writing.proofs.Filling.{goes_over, values_over}
use Rattle.witness_writing.proofs.writing.put_images.Goals as goal

pub put_values-requires : goal.put_values-requires
put_values-requires g c =
    let f = c.args.map.now.named in
    let d = c.in_ok-domain.ensures in
    let r = c.in_ok-range.ensures in (
      (omega arith),
      (
        subst (λ (l : List (List Factor)). AreNamed f l) (sym d) c.requires.faultless.named,
        (
          goes_over f _ _ _ _ d r c.requires.faultless.inside,
          (
            (omega (arith, ap (λ (l : List (List Factor)). length (cells_of l)) d, c.requires.few)),
            ((omega (arith, ap (λ (l : List (List Factor)). length (cells_of l)) r, c.requires.range_few)), values_over f _ _ _ _ c.args.part.now d r c.requires.part),
          ),
        ),
      ),
    )
