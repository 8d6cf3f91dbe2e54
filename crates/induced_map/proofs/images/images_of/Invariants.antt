use Rattle.chain_selector.specs.Selections.{Extends}
use Rattle.homology_basis.specs.Bases.{in_degree}
use Rattle.induced_map.specs.Lists.{AreEach}
use Rattle.induced_map.specs.Images.{IsRestrictedImage}
use Rattle.induced_map.proofs.images.images_of.Given as goal

abbrev pub invariant-loop-number : goal.invariant-loop-number
invariant-loop-number g l = record {
  extends : Extends l.fn.selector l.selector;
  images : AreEach (IsRestrictedImage g.row.P l.fn.selector.carrying l.domain_cells l.range_cells) (in_degree l.domain.cycles l.degree) l.number l.images.items;
}
