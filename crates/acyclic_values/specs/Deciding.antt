-- What decides whether a list of cells is acyclic: reductions that leave no boundary, which every
-- complex has.
use Rattle.std.specs.Prelude.{◌≡◌, ℕ, ◌<◌, ◌≤◌, ◌^◌, ◌⊎◌, List, length, true}
use Rattle.field_mod.specs.Modular.{IsField}
use Rattle.elem_cubes.specs.Cells.{Factor}
use Rattle.chains.specs.ChainComplex.{ChainComplex, IsComplex}
use Rattle.algebraic_reduction.specs.Reduction.{Step}
use Rattle.algebraic_reduction.specs.Laws.{AreStepsOf, NothingLeft}
use Rattle.cube_sets.specs.Closures.{is_cell_of, cells_of}
use Rattle.cube_maps.specs.CubeMaps.{Naming}
use Rattle.cell_complex.specs.Acyclic.{IsAcyclic, IsHole}
use Rattle.chains.specs.Terms.{IsNormal}
use Rattle.acyclic_values.specs.declared.hole.Hole.{Hole}
use Rattle.acyclic_values.specs.declared.hole.Hole.TheVariants.{Empty, Class}
use Rattle.acyclic_values.specs.Contractions.{IsCellList}
use Rattle.acyclic_values.specs.Faults.{IsHoleOf}
use Rattle.acyclic_values.specs.Values.{IsValueAt}
use Rattle.acyclic_values.specs.CarriedMaps.{GoesInto}

-- steps on the complex K that leave no boundary
pub record FullReduction (p : ℕ) (K : ChainComplex) : Type 0 where
  pub steps : List Step
  pub made : AreStepsOf p K steps
  pub nothing : NothingLeft p K steps

-- the chains of the hole are in normal form
abbrev pub IsNormalHole : (p : ℕ) → Hole p → Type 0
IsNormalHole p Empty = Unit {0}
IsNormalHole p (Class k z w) = IsNormal p z × IsNormal p w

-- a hole of a list of cells
pub record SomeHole (p : ℕ) (cells : List (List Factor)) : Type 0 where
  pub hole : Hole p
  pub of_cells : IsHoleOf p cells hole
  pub normal : IsNormalHole p hole

-- each complex has steps that leave no boundary
abbrev pub ReductionsExist : Type 0
ReductionsExist = (p : ℕ) (K : ChainComplex) → IsField p → IsComplex p K → FullReduction p K

-- a list of cells, fewer than 2^32, is acyclic or has a hole
abbrev pub AcyclicOrHole : Type 0
AcyclicOrHole =
    (p : ℕ) (cells : List (List Factor)) → IsField p → IsCellList cells → length cells < 2 ^ 32
    → IsAcyclic p cells ⊎ SomeHole p cells

-- two holes of one set have one degree
abbrev pub HolesHaveOneDegree : Type 0
HolesHaveOneDegree =
    (p : ℕ) (x : List (List Factor)) (k l : ℕ) (z w y v : List Factor → ℕ)
    → 2 ≤ p → IsHole p x k z w → IsHole p x l y v → k ≡ l

-- the value at the cell s, as a list that is acyclic or has a hole
pub record DecidedValue (p : ℕ) (map : List Naming) (domain : List (List Factor))
    (s : List Factor) : Type 0 where
  pub value : List (List Factor)
  pub is : IsValueAt map domain s value
  pub decided : IsAcyclic p value ⊎ SomeHole p value

-- where the cubes of the domain go into a range of fewer than 2^32 cells, the value at each cell is
-- acyclic or has a hole
abbrev pub ValuesAreDecided : Type 0
ValuesAreDecided =
    (p : ℕ) (map : List Naming) (domain range : List (List Factor)) (s : List Factor)
    → IsField p → GoesInto map domain range → length (cells_of range) < 2 ^ 32
    → is_cell_of domain s ≡ true
    → DecidedValue p map domain s
