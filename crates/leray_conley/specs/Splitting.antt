-- The Leray splitting of a square matrix a of size d: the space is the image of a ^ d beside its
-- kernel, and a is invertible on the image (Mrozek, Leray functor and cohomological Conley index
-- for discrete dynamical systems, 1990).
use Rattle.std.specs.Prelude.{◌≡◌, ℕ, ◌+◌, ◌-◌, ◌<◌, ◌≤◌, if◌then◌else◌, nat_lt}
use Rattle.field_mod.specs.Modular.{Same, IsField}
use Rattle.leray_conley.specs.Products.{product, identity, none, power, AreSame}
use Rattle.leray_conley.specs.Kernels.{IsKilled}
use Rattle.leray_conley.specs.Tables.{Table, entry}

-- a, which has r columns, and b side by side
abbrev pub beside : ℕ → (ℕ → ℕ → ℕ) → (ℕ → ℕ → ℕ) → ℕ → ℕ → ℕ
beside r a b i j = if nat_lt j r then a i j else b i (j - r)

-- the data of a splitting, as functions
pub record Splitting : Type 0 where
  -- how many columns image has; kernel has the others
  pub rank : ℕ
  pub image : ℕ → ℕ → ℕ
  pub kernel : ℕ → ℕ → ℕ
  -- what a does to the columns of image
  pub reduced : ℕ → ℕ → ℕ
  pub reduced_inverse : ℕ → ℕ → ℕ
  -- of image and kernel side by side
  pub split_inverse : ℕ → ℕ → ℕ

pub record IsLeraySplitting (p d : ℕ) (a : ℕ → ℕ → ℕ) (s : Splitting) : Type 0 where
  pub fits : s.rank ≤ d
  pub splits : AreSame p d d (product d (beside s.rank s.image s.kernel) s.split_inverse) identity
  pub dies : AreSame p d (d - s.rank) (product d (power d a d) s.kernel) none
  pub reduces : AreSame p d s.rank (product d a s.image) (product s.rank s.image s.reduced)
  pub inverts : AreSame p s.rank s.rank (product s.rank s.reduced s.reduced_inverse) identity

-- image, with r columns, and kernel, with s, split the space, a maps the image to itself and no
-- vector of it but 0 to 0
pub record IsSplit (p d r s : ℕ) (a image kernel : ℕ → ℕ → ℕ) : Type 0 where
  pub sizes : r + s ≡ d
  pub unkilled : (v : ℕ → ℕ) → IsKilled p d d (beside r image kernel) v → ⊥
  pub dies : AreSame p d s (product d (power d a d) kernel) none
  pub map : ℕ → ℕ → ℕ
  pub carried : AreSame p d r (product d a image) (product r image map)
  pub faithful : (x : ℕ → ℕ) → AreSame p d 1 (product d a (product r image (λ i j. x i))) none
      → (k : ℕ) → k < r → Same p (x k) 0

-- each square matrix has a splitting
abbrev pub SplittingsExist : Type 0
SplittingsExist = (p d : ℕ) (a : ℕ → ℕ → ℕ) → IsField p → (s : Splitting) × IsLeraySplitting p d a s

-- similar matrices have images with as many columns: that of a map does not depend on the bases
abbrev pub SplittingRanksAgree : Type 0
SplittingRanksAgree =
    (p d : ℕ) (a b s t : ℕ → ℕ → ℕ) (x y : Splitting) → IsField p
    → AreSame p d d (product d s t) identity → AreSame p d d (product d a s) (product d s b)
    → IsLeraySplitting p d a x → IsLeraySplitting p d b y → x.rank ≡ y.rank

-- m is a power of the square matrix a of size d, of an exponent that is not below d
pub record IsHighPower (p d : ℕ) (a : ℕ → ℕ → ℕ) (m : Table) : Type 0 where
  pub has_rows : m.rows ≡ d
  pub has_columns : m.columns ≡ d
  pub exponent : ℕ
  pub high : d ≤ exponent
  pub is_power : AreSame p d d (entry m) (power d a exponent)
