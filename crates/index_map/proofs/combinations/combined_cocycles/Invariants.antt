use Rattle.std.proofs.Common.{get_or}
use Rattle.homology_basis.specs.Bases.{in_degree}
use Rattle.index_map.specs.Combinations.{IsCombination}
use Rattle.index_map.proofs.combinations.combined_cocycles.Given as goal

abbrev pub invariant-loop-number : goal.invariant-loop-number
invariant-loop-number g l = IsCombination g.row.P (λ i. get_or l.numbers i 0) (in_degree l.basis.cocycles l.degree) l.number l.sum
