-- Kernels: the vectors that a matrix sends to 0
use Rattle.std.specs.Prelude.{◌≡◌, ℕ, ◌*◌, ◌<◌, List, length, slice_index}
use Rattle.field_mod.specs.Sums.{total}
use Rattle.field_mod.specs.Modular.{Same, NonZero}

-- the matrix a, which has rows and columns, sends v to 0
abbrev pub IsInKernel : ℕ → ℕ → ℕ → (ℕ → ℕ → ℕ) → (ℕ → ℕ) → Type 0
IsInKernel p rows columns a v = (i : ℕ) → i < rows → Same p (total columns (λ j. a i j * v j)) 0

-- v is a vector of the kernel of a, and not 0
pub record IsKilled (p rows columns : ℕ) (a : ℕ → ℕ → ℕ) (v : ℕ → ℕ) : Type 0 where
  pub place : ℕ
  pub within : place < columns
  pub nonzero : NonZero p (v place)
  pub kills : IsInKernel p rows columns a v

-- no vector but 0 is in the kernel of a
abbrev pub IsInjective : ℕ → ℕ → ℕ → (ℕ → ℕ → ℕ) → Type 0
IsInjective p rows columns a = (v : ℕ → ℕ) → IsInKernel p rows columns a v → (j : ℕ) → j < columns
    → Same p (v j) 0

-- .. as a list of numbers below p
pub record IsKernelVector (p rows columns : ℕ) (a : ℕ → ℕ → ℕ) (v : List ℕ) : Type 0 where
  pub len : length v ≡ columns
  pub below : (j : ℕ) → j < columns → slice_index v j < p
  pub killed : IsKilled p rows columns a (slice_index v)
