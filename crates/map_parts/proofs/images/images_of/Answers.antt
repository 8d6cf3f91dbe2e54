use Rattle.std.proofs.Common.{◌∙◌, arith}
use Rattle.field_mod.proofs.Table.{two_le}
use Rattle.map_parts.proofs.Selecting.{none_so_far, one_so_far, all_so_far, same_domain, same_range}
use Rattle.map_parts.proofs.images.images_of.Goals as goal

pub loop-place-init : goal.loop-place-init
loop-place-init g c = none_so_far g.row.P c.args.selector.now c.args.cells.now c.args.all.now c.new-images.result.items c.new-images.ensures.items

pub image_at-requires : goal.image_at-requires
image_at-requires g c = (
  (omega arith),
  (
    (omega arith),
    (
      (omega arith),
      (
        c.requires.cells ∙ same_domain c.args.selector.now c.loop-place.selector c.loop-place.invariant.extends,
        (
          c.requires.all ∙ same_range c.args.selector.now c.loop-place.selector c.loop-place.invariant.extends,
          ((omega (arith, c.loop-place-test.true, c.len-place-end.ensures.count)), c.requires.few),
        ),
      ),
    ),
  ),
)

pub loop-place-preserved : goal.loop-place-preserved
loop-place-preserved g c =
    one_so_far g.row.P c.args.selector.now c.loop-place.selector c.image_at.new.selector c.args.cells.now c.args.all.now c.loop-place.place
    c.loop-place.images.items c.push.new.self.items c.in_ok-image_at.field-0 c.loop-place.invariant
    c.image_at.ensures.extends c.in_ok-image_at.ensures.kept c.in_ok-image_at.ensures.image c.in_ok-push.ensures.items

pub returns : goal.returns
returns g c =
    all_so_far g.row.P c.args.selector.now c.loop-place.selector c.args.cells.now c.args.all.now c.loop-place.place c.loop-place.images.items
    (omega (arith, two_le g.row.P c.args.field.listed)) c.loop-place.invariant
    (omega (arith, c.loop-place-test.false, c.len-place-end.ensures.count)) c.requires.cells c.requires.all c.dimension-dimension.ensures.selection
