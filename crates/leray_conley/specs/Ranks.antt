-- Ranks: the dimension of the image
use Rattle.std.specs.Prelude.{◌≡◌, ℕ}
use Rattle.field_mod.specs.Modular.{IsField}
use Rattle.leray_conley.specs.Products.{product, identity, transpose, AreSame}
use Rattle.leray_conley.specs.Kernels.{IsInjective}

-- the r columns of b are a basis of the image of a, which has rows and columns
pub record IsImageBasis (p rows columns : ℕ) (a : ℕ → ℕ → ℕ) (r : ℕ) (b : ℕ → ℕ → ℕ) : Type 0 where
  -- each column of b is in the image of a
  pub sources : ℕ → ℕ → ℕ
  pub inside : AreSame p rows r b (product columns a sources)
  -- each column of a, and so the image, is a combination of the columns of b
  pub weights : ℕ → ℕ → ℕ
  pub spans : AreSame p rows columns a (product r b weights)
  pub independent : IsInjective p rows r b

-- r is the rank of a: the number of vectors in a basis of its image
abbrev pub IsRank : ℕ → ℕ → ℕ → (ℕ → ℕ → ℕ) → ℕ → Type 0
IsRank p rows columns a r = (b : ℕ → ℕ → ℕ) × IsImageBasis p rows columns a r b

-- each matrix has a rank
abbrev pub RanksExist : Type 0
RanksExist = (p rows columns : ℕ) (a : ℕ → ℕ → ℕ) → IsField p → (r : ℕ) × IsRank p rows columns a r

-- .. and one alone
abbrev pub RanksAgree : Type 0
RanksAgree = (p rows columns : ℕ) (a : ℕ → ℕ → ℕ) (r s : ℕ) → IsField p → IsRank p rows columns a r
    → IsRank p rows columns a s → r ≡ s

-- rows and columns give the same rank
abbrev pub RanksOfTransposesAgree : Type 0
RanksOfTransposesAgree = (p rows columns : ℕ) (a : ℕ → ℕ → ℕ) (r : ℕ) → IsField p
    → IsRank p rows columns a r → IsRank p columns rows (transpose a) r

-- an invertible factor on the left leaves the rank
abbrev pub LeftFactorsKeepRanks : Type 0
LeftFactorsKeepRanks =
    (p rows columns : ℕ) (s t a : ℕ → ℕ → ℕ) (r : ℕ) → IsField p
    → AreSame p rows rows (product rows s t) identity
    → IsRank p rows columns a r → IsRank p rows columns (product rows s a) r

-- .. and so does one on the right
abbrev pub RightFactorsKeepRanks : Type 0
RightFactorsKeepRanks =
    (p rows columns : ℕ) (s t a : ℕ → ℕ → ℕ) (r : ℕ) → IsField p
    → AreSame p columns columns (product columns s t) identity
    → IsRank p rows columns a r → IsRank p rows columns (product columns a s) r
