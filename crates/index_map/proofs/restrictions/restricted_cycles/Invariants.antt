use Rattle.homology_basis.specs.Bases.{in_degree}
use Rattle.chain_selector.specs.Renumbered.{IsRenumbered}
use Rattle.induced_map.specs.Lists.{AreEach}
use Rattle.index_map.proofs.restrictions.restricted_cycles.Given as goal

abbrev pub invariant-loop-number : goal.invariant-loop-number
invariant-loop-number g l = AreEach (IsRenumbered g.row.P l.domain_cells l.range_cells) (in_degree l.domain.cycles l.degree) l.number l.chains.items
