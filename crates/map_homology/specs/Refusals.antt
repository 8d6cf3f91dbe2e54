-- What refuses a map of pairs whose induced map is wanted.
use Rattle.std.specs.Prelude.{◌≡◌, ◌⊎◌, ℕ, ◌*◌, ◌<◌, ◌≤◌, List, Bool, true}
use Rattle.elem_cubes.specs.Cells.{Factor}
use Rattle.chains.specs.Homology.{IsBasis}
use Rattle.cell_complex.specs.RelativeComplex.{relative_complex}
use Rattle.faults.specs.declared.fault.Fault.{Fault}
use Rattle.faults.specs.declared.fault.Fault.TheVariants.{Limit}
use Rattle.faults.specs.declared.limit_name.LimitName.TheVariants.{MatrixEntries}
use Rattle.loading.specs.Jobs.{IsAllowed}
use Rattle.pair_maps.specs.declared.inputs.PairMap.{PairMap}
use Rattle.pair_maps.specs.Inputs.{dimension_of_map}
use Rattle.pair_maps.specs.Refusals.{RefusesPairMap}
use Rattle.index_part.specs.Refusals.{RefusesIndex}

-- the most entries of a matrix
abbrev pub most_entries : ℕ
most_entries = 16777216

-- in some degree up to the dimension of the map the homology of the pair of the domain has a basis
-- of so many cycles and that of the range one of so many, that their matrix has too many entries
pub record HasLargeMatrix (p : ℕ) (m : PairMap) : Type 0 where
  pub degree : ℕ
  pub within : degree ≤ dimension_of_map m
  pub columns : ℕ
  pub rows : ℕ
  pub zs : ℕ → List Factor → ℕ
  pub ws : ℕ → List Factor → ℕ
  pub domain : IsBasis p (relative_complex p m.x.cells m.a.cells) degree columns zs
  pub range : IsBasis p (relative_complex p m.y.cells m.b.cells) degree rows ws
  pub large : most_entries < rows * columns

-- what refuses the map of the pairs, and then the entries of a matrix
abbrev pub RefusesMatrices : ℕ → PairMap → Fault → Type 0
RefusesMatrices p m fault = RefusesPairMap p m fault
    ⊎ (IsAllowed (RefusesPairMap p) m × HasLargeMatrix p m
    × (fault ≡ Limit MatrixEntries most_entries))

-- .. and, where index matrices are wanted, then what refuses these
abbrev pub RefusesMapHomology : ℕ → Bool → PairMap → Fault → Type 0
RefusesMapHomology p wanted m fault = RefusesMatrices p m fault
    ⊎ ((wanted ≡ true) × IsAllowed (RefusesMatrices p) m × RefusesIndex p m fault)
