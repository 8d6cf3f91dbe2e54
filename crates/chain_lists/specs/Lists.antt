-- Lists of chains: multiples of chains, and transposes.
use Rattle.std.specs.Prelude.{◌≡◌, ℕ, ◌+◌, ◌*◌, ◌%◌, ◌<◌, List, length, slice_index_or, [], if◌then◌else◌, ◌==◌}
use Rattle.field_mod.specs.Modular.{Same}
use Rattle.chains.specs.Terms.{coefficient, nth_chain, IsNormal}

-- the terms became those with a number times the chain ts
abbrev pub AddsMultiple : ℕ → ℕ → List (ℕ × ℕ) → List (ℕ × ℕ) → List (ℕ × ℕ) → Type 0
AddsMultiple p scale ts old new =
    (g : ℕ) → Same p (coefficient new g) (coefficient old g + scale * coefficient ts g)

-- to the g-th list came, beside the number of a column, the coefficient of g in the chain ts
abbrev pub AddsColumn : ℕ → List (ℕ × ℕ) → List (List (ℕ × ℕ)) → List (List (ℕ × ℕ)) → Type 0
AddsColumn column ts old new =
    (g h : ℕ) → g < length old → nth_chain new g h ≡ nth_chain old g h
    + (if column == h then coefficient ts g else 0)

-- the chains are the sums of the terms of the lists
pub record AreSums (p : ℕ) (lists rows : List (List (ℕ × ℕ))) : Type 0 where
  pub count : length rows ≡ length lists
  pub normal : (g : ℕ) → g < length rows → IsNormal p (slice_index_or rows g [])
  pub value : (g h : ℕ) → g < length rows → nth_chain rows g h ≡ nth_chain lists g h % p

-- row g has at h the coefficient of g in chain h, for each g below the count
pub record IsTranspose (p count : ℕ) (chains rows : List (List (ℕ × ℕ))) : Type 0 where
  pub normal : (g : ℕ) → g < count → IsNormal p (slice_index_or rows g [])
  pub value : (g h : ℕ) → g < count → Same p (nth_chain rows g h) (nth_chain chains h g)
