-- When a matrix is told to have no inverse
use Rattle.std.specs.Prelude.{ℕ}
use Rattle.leray_conley.specs.Inverses.{IsInverse}
use Rattle.leray_conley.specs.Kernels.{IsKernelVector}
use Rattle.leray_conley.specs.declared.inverse.InverseFault.{InverseFault}
use Rattle.leray_conley.specs.declared.inverse.InverseFault.TheVariants.{Singular, NoMemory}

-- the square matrix a of size d has no inverse, and sends the vector that was found to 0
abbrev pub IsFaultOf : ℕ → ℕ → (ℕ → ℕ → ℕ) → InverseFault → Type 0
IsFaultOf p d a (Singular kernel) = IsKernelVector p d d a kernel.items
    × ((b : ℕ → ℕ → ℕ) → IsInverse p d a b → ⊥)
IsFaultOf p d a NoMemory = Unit {0}
