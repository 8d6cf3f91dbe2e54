use Rattle.std.proofs.Common.{◌∙◌, ℕ, ap, arith, length, sym, subst, map}
use Rattle.cube_sets.specs.Closures.{cells_of}
use Rattle.map_parts.specs.Values.{AreFiledContractions}
use Rattle.map_parts.proofs.Selecting.{images_over, carries_over}
use Rattle.map_parts.proofs.part.over_cells.Goals as goal

pub values_of-requires : goal.values_of-requires
values_of-requires g c =
    let d = c.args.domain.now.cells in
    let r = c.args.range.now.cells in (
      (omega arith),
      (
        (omega arith),
        (
          c.in_ok-cells.ensures,
          (
            c.in_ok-all.ensures,
            (
              carries_over g.row.P c.args.selector.now.carrying c.args.cube_map.now.named d r c.requires.map c.requires.domain c.requires.range c.dimension-dimension.ensures.selection.carrier,
              (omega (arith, ap length c.in_ok-all.ensures, c.requires.range_few)),
            ),
          ),
        ),
      ),
    )

pub images_of-requires : goal.images_of-requires
images_of-requires g c = (
  (omega arith),
  (
    (omega arith),
    (
      (omega arith),
      (
        c.in_ok-cells.ensures ∙ ap cells_of (sym c.requires.domain),
        (c.in_ok-all.ensures ∙ ap cells_of (sym c.requires.range), (omega (arith, ap length c.in_ok-all.ensures, c.requires.range_few))),
      ),
    ),
  ),
)

pub returns : goal.returns
returns g c =
    let f = c.args.cube_map.now.named in
    let d = c.args.domain.now.cells in
    let r = c.args.range.now.cells in
    record {
      values = subst (λ (n : ℕ). AreFiledContractions g.row.P f d r n c.in_ok-vertices.vertices.items (map (λ v. v.items) c.in_ok-vertices.contractions.items))
          (ap length c.in_ok-cells.ensures) c.in_ok-vertices.ensures;
      images = images_over g.row.P c.args.selector.now.carrying f d r c.requires.map c.requires.domain c.requires.range _ c.in_ok-images.ensures;
    }
