-- What decides whether the inclusion of a pair is invertible: bases, which each pair has.
use Rattle.std.specs.Prelude.{◌⊎◌, ℕ, ◌<◌, ◌^◌, List, length}
use Rattle.field_mod.specs.Modular.{IsField}
use Rattle.elem_cubes.specs.Cells.{Factor}
use Rattle.chains.specs.Terms.{coefficient, IsNormalWithin}
use Rattle.cube_sets.specs.Closures.{cells_of}
use Rattle.cell_complex.specs.Numbering.{by_cell}
use Rattle.cell_complex.specs.Sorted.{without}
use Rattle.index_map.specs.Inclusion.{IsIncluded, IsInvertibleInclusion, IsKilled, IsMissed}

-- the relative cells of a pair, in order
abbrev pub relative_list : List (List Factor) → List (List Factor) → List (List Factor)
relative_list x a = without (cells_of x) (cells_of a)

-- some chain of these cells, in normal form by their numbers, of which P holds
pub record SomeChain (p : ℕ) (cells : List (List Factor))
    (P : (List Factor → ℕ) → Type 0) : Type 0 where
  pub terms : List (ℕ × ℕ)
  pub normal : IsNormalWithin p 0 (length cells) terms
  pub holds : P (by_cell cells (coefficient terms))

-- some cycle is killed in degree k; or none is, and some cocycle is missed
abbrev pub IsNotInvertible : ℕ → List (List Factor) → List (List Factor) → List (List Factor)
    → List (List Factor) → ℕ → Type 0
IsNotInvertible p x a y b k =
    SomeChain p (relative_list x a) (IsKilled p x a y b k)
    ⊎ (((z : List Factor → ℕ) → IsKilled p x a y b k z → ⊥)
    × SomeChain p (relative_list y b) (IsMissed p x a y b k))

-- the least degree in which the inclusion is not invertible
pub record IsFirstFailure (p : ℕ) (x a y b : List (List Factor)) (k : ℕ) : Type 0 where
  pub here : IsNotInvertible p x a y b k
  pub below : (l : ℕ) → l < k → IsInvertibleInclusion p x a y b l

-- an included pair of sets of fewer than 2^32 cells has such a degree, or its inclusion is
-- invertible in each
abbrev pub InclusionsAreDecided : Type 0
InclusionsAreDecided =
    (p : ℕ) (x a y b : List (List Factor))
    → IsField p → length (cells_of x) < 2 ^ 32 → length (cells_of y) < 2 ^ 32
    → IsIncluded x a y b
    → ((k : ℕ) × IsFirstFailure p x a y b k) ⊎ ((k : ℕ) → IsInvertibleInclusion p x a y b k)
