-- Chains that fill cycles on a list of cells.
use Rattle.std.specs.Prelude.{ℕ, ◌+◌, List, length}
use Rattle.elem_cubes.specs.Cells.{Factor}
use Rattle.chains.specs.Terms.{coefficient}
use Rattle.chains.specs.Homology.{IsChain, IsCycle, IsNull, IsBoundaryOf}
use Rattle.cell_complex.specs.Acyclic.{complex_of_set}
use Rattle.cell_complex.specs.Numbering.{by_cell}
use Rattle.chain_selector.specs.Multiples.{NamesBelow}

-- the chain b of places in the list fills the chain c of degree k: c is its boundary
pub record IsFilling (p : ℕ) (cells : List (List Factor)) (k : ℕ)
    (c b : List (ℕ × ℕ)) : Type 0 where
  pub within : NamesBelow (length cells) b
  pub chain : IsChain p (complex_of_set p cells) (k + 1) (by_cell cells (coefficient b))
  pub fills : IsBoundaryOf p (complex_of_set p cells) (by_cell cells (coefficient c))
      (by_cell cells (coefficient b))

-- it fills c where c is a cycle that is null
abbrev pub FillsIfNull : ℕ → List (List Factor) → List (ℕ × ℕ) → List (ℕ × ℕ) → Type 0
FillsIfNull p cells c b =
    (k : ℕ) → IsCycle p (complex_of_set p cells) k (by_cell cells (coefficient c))
    → IsNull p (complex_of_set p cells) k (by_cell cells (coefficient c))
    → IsFilling p cells k c b
