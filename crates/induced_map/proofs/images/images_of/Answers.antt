use Rattle.std.proofs.Common.{ℕ, sym, subst, arith, List}
use Rattle.field_mod.proofs.Table.{two_le}
use Rattle.homology_basis.specs.Bases.{in_degree}
use Rattle.map_checks.specs.Carriers.{Carrying}
use Rattle.chain_selector.proofs.Settling.{extends_itself, extends_on}
use Rattle.induced_map.specs.Within.{AreCellsOf, AreWithin}
use Rattle.induced_map.specs.Lists.{AreEach}
use Rattle.induced_map.specs.Images.{IsRestrictedImage}
use Rattle.induced_map.proofs.Restricting.{cycle_within}
use Rattle.induced_map.proofs.Each.{each_none, each_more}
use Rattle.induced_map.proofs.images.images_of.Goals as goal

pub loop-number-init : goal.loop-number-init
loop-number-init g c = record {
  extends = extends_itself c.args.selector.now;
  images = each_none (IsRestrictedImage g.row.P c.args.selector.now.carrying c.args.domain_cells.now c.args.range_cells.now) (in_degree c.args.domain.now.cycles c.args.degree) c.new-images.result.items c.new-images.ensures.items;
}

pub image_of-requires : goal.image_of-requires
image_of-requires g c = (
  (omega arith),
  (
    (omega arith),
    (
      (omega arith),
      (
        subst (λ (d : Carrying). AreCellsOf d.range c.args.range_cells.now) (sym c.loop-number.invariant.extends.carrying) c.requires.cells,
        subst (λ (us : List (ℕ × ℕ)). AreWithin c.args.domain_cells.now us) (sym c.cycle-cycle.ensures)
            (cycle_within g.row.P c.args.degree c.loop-number.number c.args.domain.now c.args.domain_cells.now (omega (arith, two_le g.row.P c.args.field.listed)) c.dimension-number-end.ensures.basis c.requires.complex (omega (arith, c.loop-number-test.true, c.dimension-number-end.ensures.dimension))),
      ),
    ),
  ),
)

pub loop-number-preserved : goal.loop-number-preserved
loop-number-preserved g c = record {
  extends = extends_on c.args.selector.now c.loop-number.selector c.image_of.new.selector c.loop-number.invariant.extends c.image_of.ensures.extends;
  images = each_more (IsRestrictedImage g.row.P c.args.selector.now.carrying c.args.domain_cells.now c.args.range_cells.now) (in_degree c.args.domain.now.cycles c.args.degree) c.loop-number.number c.loop-number.images.items c.push.new.self.items
      c.cycle-cycle.result.now c.in_ok-image.image c.loop-number.invariant.images c.in_ok-push.ensures.items c.cycle-cycle.ensures
      (subst (λ (d : Carrying). IsRestrictedImage g.row.P d c.args.domain_cells.now c.args.range_cells.now c.cycle-cycle.result.now c.in_ok-image.image) c.loop-number.invariant.extends.carrying c.in_ok-image.ensures.image);
}

pub returns-clause-images : goal.returns-clause-images
returns-clause-images g c =
    subst (λ (n : ℕ). AreEach (IsRestrictedImage g.row.P c.args.selector.now.carrying c.args.domain_cells.now c.args.range_cells.now) (in_degree c.args.domain.now.cycles c.args.degree) n c.loop-number.images.items)
    (omega (arith, c.loop-number-test.false, c.dimension-number-end.ensures.dimension)) c.loop-number.invariant.images

pub returns-in_err-image-clause-extends : goal.returns-in_err-image-clause-extends
returns-in_err-image-clause-extends g c = extends_on c.args.selector.now c.loop-number.selector c.image_of.new.selector c.loop-number.invariant.extends c.image_of.ensures.extends

pub returns-in_err-push-clause-extends : goal.returns-in_err-push-clause-extends
returns-in_err-push-clause-extends g c = extends_on c.args.selector.now c.loop-number.selector c.image_of.new.selector c.loop-number.invariant.extends c.image_of.ensures.extends
