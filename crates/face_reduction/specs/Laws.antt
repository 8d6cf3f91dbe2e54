-- Laws of collapses: each is the contract of a function of the crate with an empty body.
use Rattle.std.specs.Prelude.{ℕ, ◌*◌, ◌<◌, ◌≤◌, List, length}
use Rattle.field_mod.specs.Modular.{Same}
use Rattle.elem_cubes.specs.Cells.{Factor}
use Rattle.elem_cubes.specs.Laws.{cell_at}
use Rattle.chains.specs.ChainComplex.{ChainComplex}
use Rattle.algebraic_reduction.specs.Reduction.{Step, IsUnpaired}
use Rattle.algebraic_reduction.specs.Laws.{AreStepsOf, left_of}
use Rattle.algebraic_reduction.specs.Restrictions.{LeaveRestrictions}
use Rattle.cell_complex.specs.Sorted.{IsSortedCells}
use Rattle.cell_complex.specs.Numbering.{IsComplexOf}
use Rattle.cell_complex.specs.FreePairs.{IsFreePair, CollapsesTo}
use Rattle.excision.specs.Left.{is_left}
use Rattle.face_reduction.specs.Logs.{IsGrowthThenCollapse, IsCollapse}

-- the steps of a growth and free pairs after it leave restrictions
abbrev pub CollapsesLeaveRestrictions : Type 0
CollapsesLeaveRestrictions =
    (p : ℕ) (cells : List (List Factor)) (K : ChainComplex) (ss : List Step)
    → IsSortedCells cells → IsComplexOf p cells K → AreStepsOf p K ss
    → IsGrowthThenCollapse cells ss → LeaveRestrictions p K ss

-- what a free pair of numbered cells is to a log that leaves restrictions: a pair that may be
-- reduced, whose incidence number in what is left is its own inverse
pub record IsUnitPair (p : ℕ) (K : ChainComplex) (ss : List Step) (a b : ℕ) : Type 0 where
  pub a_alive : IsUnpaired ss a
  pub b_alive : IsUnpaired ss b
  pub unit : Same p (left_of p K ss b a * left_of p K ss b a) 1

abbrev pub FreePairsAreUnits : Type 0
FreePairsAreUnits =
    (p : ℕ) (cells : List (List Factor)) (K : ChainComplex) (ss : List Step) (a b : ℕ)
    → 1 ≤ p → IsSortedCells cells → IsComplexOf p cells K → LeaveRestrictions p K ss
    → a < length cells → b < length cells
    → IsFreePair (is_left cells ss) (cell_at cells a) (cell_at cells b) → IsUnitPair p K ss a b

-- further steps by free pairs go on with a collapse, and the cells that are left come by it
abbrev pub CollapsesGoOn : Type 0
CollapsesGoOn =
    (cells : List (List Factor)) (old new : List Step)
    → IsSortedCells cells → IsCollapse cells old new
    → CollapsesTo (is_left cells old) (is_left cells new)
    × (IsGrowthThenCollapse cells old → IsGrowthThenCollapse cells new)
