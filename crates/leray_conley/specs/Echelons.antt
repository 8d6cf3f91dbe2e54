-- Gauss-Jordan elimination: what rows in reduced form are, and what they have in common with the
-- matrix they came from
use Rattle.std.specs.Prelude.{◌≡◌, ℕ, ◌+◌, ◌*◌, ◌<◌, ◌≢◌, List, length, slice_index, slice_index_or, []}
use Rattle.field_mod.specs.Sums.{total}
use Rattle.field_mod.specs.Modular.{Same, minus}
use Rattle.leray_conley.specs.Products.{identity}
use Rattle.leray_conley.specs.Kernels.{IsInKernel}

-- the entry j of row i of a list of rows
abbrev pub cell : List (List ℕ) → ℕ → ℕ → ℕ
cell rows i j = slice_index (slice_index_or rows i []) j

-- the product of a row of n entries and a vector
abbrev pub along : ℕ → (ℕ → ℕ) → (ℕ → ℕ) → ℕ
along n row v = total n (λ j. row j * v j)

-- r rows of n entries in reduced form: row k has its first entry that is not 0 in column pivot k,
-- it is 1, and the other rows are 0 there
pub record IsEchelon (p n r : ℕ) (b : ℕ → ℕ → ℕ) (pivot : ℕ → ℕ) : Type 0 where
  pub columns : (k : ℕ) → k < r → pivot k < n
  pub unit : (i k : ℕ) → i < r → k < r → Same p (b i (pivot k)) (identity i k)
  pub leading : (k j : ℕ) → k < r → j < pivot k → Same p (b k j) 0

-- .. as lists
pub record HasEchelon (p n : ℕ) (rows : List (List ℕ)) (pivots : List ℕ) : Type 0 where
  pub sizes : length rows ≡ length pivots
  pub widths : (k : ℕ) → k < length rows → length (slice_index_or rows k []) ≡ n
  pub echelon : IsEchelon p n (length rows) (cell rows) (slice_index pivots)

-- rows b have the kernel of rows a and of one more
pub record IsExtended (p n r s : ℕ) (a : ℕ → ℕ → ℕ) (row : ℕ → ℕ) (b : ℕ → ℕ → ℕ) : Type 0 where
  pub forth : (v : ℕ → ℕ) → IsInKernel p r n a v → Same p (along n row v) 0 → IsInKernel p s n b v
  pub back : (v : ℕ → ℕ) → IsInKernel p s n b v → IsInKernel p r n a v
  pub last : (v : ℕ → ℕ) → IsInKernel p s n b v → Same p (along n row v) 0

-- the rows are in reduced form and have the kernel of the matrix a, which has m rows
pub record IsReduction (p n m : ℕ) (a : ℕ → ℕ → ℕ) (rows : List (List ℕ)) (pivots : List ℕ) : Type 0
  where
    pub form : HasEchelon p n rows pivots
    pub forth : (v : ℕ → ℕ) → IsInKernel p m n a v → IsInKernel p (length rows) n (cell rows) v
    pub back : (v : ℕ → ℕ) → IsInKernel p (length rows) n (cell rows) v → IsInKernel p m n a v

-- the columns below n without a pivot, each once
pub record AreFree (n : ℕ) (pivots free : List ℕ) : Type 0 where
  pub within : (t : ℕ) → t < length free → slice_index free t < n
  pub apart : (t k : ℕ) → t < length free → k < length pivots → slice_index pivots k
      ≢ slice_index free t
  pub every : (c : ℕ) → c < n → ((k : ℕ) → k < length pivots → slice_index pivots k ≢ c) → (t : ℕ)
      × (t < length free) × (slice_index free t ≡ c)
  pub distinct : (t u : ℕ) → t < length free → u < length free → slice_index free t
      ≡ slice_index free u → t ≡ u

-- column c is the vector of the kernel that is 1 at c and 0 at the other columns without a pivot
abbrev pub kernel_matrix : ℕ → ℕ → (ℕ → ℕ → ℕ) → (ℕ → ℕ) → ℕ → ℕ → ℕ
kernel_matrix p r b pivot l c = identity l c + total r (λ k. identity l (pivot k) * minus p (b k c))

-- x, with d rows, has the entries beyond column d of the rows b, in the order of their pivots
pub record IsRightBlock (d r : ℕ) (b : ℕ → ℕ → ℕ) (pivot : ℕ → ℕ) (x : ℕ → ℕ → ℕ) (count : ℕ) : Type
    0 where
  pub rows : (j : ℕ) → j < count → (k : ℕ) × (k < r) × (pivot k ≡ j)
      × ((i : ℕ) → i < d → x j i ≡ b k (d + i))
