use Rattle.std.proofs.Common.{◌∙◌, ap, sym, subst, arith, List}
use Rattle.elem_cubes.specs.Cells.{Factor}
use Rattle.cube_sets.specs.Closures.{is_cell_of}
use Rattle.chain_selector.specs.Selections.{is_kept, kept_image}
use Rattle.witness_parts.specs.Filed.{IsFiled}
use Rattle.map_parts.proofs.Selecting.{cell_there, kept_within, kept_filed}
use Rattle.map_parts.proofs.images.image_at.Goals as goal

pub image-requires : goal.image-requires
image-requires g c = (
  (omega arith),
  (
    (omega arith),
    (
      (omega arith),
      ap (is_cell_of c.args.selector.now.carrying.domain) c.cell.ensures ∙ cell_there c.args.selector.now c.args.cells.now c.args.place c.requires.cells c.requires.inside,
    ),
  ),
)

pub filed-requires : goal.filed-requires
filed-requires g c = (
  (omega arith),
  (
    (omega arith),
    (
      kept_within g.row.P c.args.selector.now c.image.new.self c.args.all.now c.cell.result c.in_ok-image.image
          c.image.ensures.extends c.requires.all c.dimension-dimension.ensures.selection c.in_ok-image.ensures.value,
      ((λ q h. h), c.requires.few),
    ),
  ),
)

pub returns-clause-kept : goal.returns-clause-kept
returns-clause-kept g c = ap (is_kept c.image.new.self) (sym c.cell.ensures) ∙ c.in_ok-image.ensures.kept

pub returns-clause-image : goal.returns-clause-image
returns-clause-image g c =
    subst (λ (q : List Factor). IsFiled g.row.P c.args.all.now (kept_image c.image.new.self q) c.in_ok-chain.chain) c.cell.ensures
    (kept_filed g.row.P c.args.selector.now c.image.new.self c.args.all.now c.cell.result c.in_ok-image.image c.in_ok-chain.chain
    c.image.ensures.extends c.requires.all c.in_ok-image.ensures.value c.in_ok-chain.ensures)
