-- Inverse matrices
use Rattle.std.specs.Prelude.{ℕ, ◌⊎◌}
use Rattle.field_mod.specs.Modular.{IsField}
use Rattle.leray_conley.specs.Products.{product, identity, AreSame}
use Rattle.leray_conley.specs.Kernels.{IsKilled}

-- b is the inverse of the square matrix a of size d
abbrev pub IsInverse : ℕ → ℕ → (ℕ → ℕ → ℕ) → (ℕ → ℕ → ℕ) → Type 0
IsInverse p d a b = AreSame p d d (product d a b) identity × AreSame p d d (product d b a) identity

-- a square matrix has an inverse, or kills a vector that is not 0
abbrev pub InverseOrKernel : Type 0
InverseOrKernel = (p d : ℕ) (a : ℕ → ℕ → ℕ) → IsField p → ((b : ℕ → ℕ → ℕ) × IsInverse p d a b)
    ⊎ ((v : ℕ → ℕ) × IsKilled p d d a v)

-- an inverse on one side is one on the other
abbrev pub RightInversesAreLeft : Type 0
RightInversesAreLeft = (p d : ℕ) (a b : ℕ → ℕ → ℕ) → IsField p
    → AreSame p d d (product d a b) identity → AreSame p d d (product d b a) identity
