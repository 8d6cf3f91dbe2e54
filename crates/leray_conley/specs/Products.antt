-- Matrices modulo p as functions: the entry in row i and column j of a is a i j, and the sizes
-- stand beside. Entries are not reduced: p enters where two matrices are compared.
use Rattle.std.specs.Prelude.{ℕ, zero, suc, ◌*◌, ◌<◌, if◌then◌else◌, ◌==◌}
use Rattle.field_mod.specs.Sums.{total}
use Rattle.field_mod.specs.Modular.{Same}

-- a and b agree modulo p in their first rows and columns
pub record AreSame (p rows columns : ℕ) (a b : ℕ → ℕ → ℕ) : Type 0 where
  pub at : (i j : ℕ) → i < rows → j < columns → Same p (a i j) (b i j)

-- the matrix without an entry that is not 0
abbrev pub none : ℕ → ℕ → ℕ
none i j = 0

abbrev pub identity : ℕ → ℕ → ℕ
identity i j = if j == i then 1 else 0

abbrev pub transpose : (ℕ → ℕ → ℕ) → ℕ → ℕ → ℕ
transpose a i j = a j i

-- the product a b, where a has k columns and b has k rows
abbrev pub product : ℕ → (ℕ → ℕ → ℕ) → (ℕ → ℕ → ℕ) → ℕ → ℕ → ℕ
product k a b i j = total k (λ l. a i l * b l j)

-- the power a ^ m of a square matrix of size d
abbrev pub power : ℕ → (ℕ → ℕ → ℕ) → ℕ → ℕ → ℕ → ℕ
power d a zero = identity
power d a (suc m) = product d a (power d a m)

-- the trace of a square matrix of size d
abbrev pub trace : ℕ → (ℕ → ℕ → ℕ) → ℕ
trace d a = total d (λ i. a i i)
