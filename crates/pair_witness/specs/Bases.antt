-- The basis of a report on a pair, by the numbers of the relative cells.
use Rattle.std.specs.Prelude.{ℕ, ◌+◌, ◌++◌, max}
use Rattle.std.specs.List.Sorted.{IsStrictlySortedBy}
use Rattle.elem_cubes.specs.Order.{cell_cmp}
use Rattle.cube_sets.specs.Sorted.{has}
use Rattle.algebraic_reduction.specs.Laws.{NothingLeft}
use Rattle.cell_complex.specs.RelativeComplex.{is_relative}
use Rattle.cell_complex.specs.Growth.{IsFinishedGrowth}
use Rattle.cell_complex.specs.FreePairs.{CollapsesTo, HasNoFreePair}
use Rattle.cell_complex.specs.Sorted.{IsSortedCells}
use Rattle.cell_complex.specs.Numbering.{IsRelativeComplex, cell_terms}
use Rattle.homology_basis.specs.Bases.{IsBasisWithContraction}
use Rattle.homology_basis.specs.declared.prepared.Prepared.{Prepared}
use Rattle.basis_reports.specs.ByDegree.{AreByDegree}
use Rattle.loading.specs.declared.two_sets.TwoSets.{TwoSets}
use Rattle.pair_witness.specs.declared.bases.PairBasis.{PairBasis}

-- the pair is prepared: its relative cells with a log of their complex in which no boundary is left,
-- the cubes of a growth, and what a collapse leaves
pub record IsPreparedOf (p : ℕ) (pair : TwoSets) (made : Prepared p) : Type 0 where
  pub complex : IsRelativeComplex p pair.x.cells pair.y.cells made.cells made.log.complex
  pub grown : IsFinishedGrowth p pair.x.cells pair.y.cells made.grown
  pub left : CollapsesTo (is_relative pair.x.cells (pair.y.cells ++ made.grown))
      (has cell_cmp made.left)
  pub none_free : HasNoFreePair (has cell_cmp made.left)
  pub sorted : IsStrictlySortedBy cell_cmp made.left
  pub nothing_left : NothingLeft p made.log.complex made.log.steps

-- the cells are the relative ones of the pair, in order, the basis is one of their complex, and its
-- cycles are those of the report
pub record IsBasisOfReport (p : ℕ) (pair : TwoSets) (made : PairBasis p) : Type 0 where
  pub relative : IsRelativeComplex p pair.x.cells pair.y.cells made.cells made.basis.log.complex
  pub sorted : IsSortedCells made.cells
  pub basis : IsBasisWithContraction p made.basis
  pub named : AreByDegree (λ k. cell_terms made.cells) made.basis.cycles
      (max pair.x.dimension pair.y.dimension + 1) made.report.dimensions made.report.cycles
