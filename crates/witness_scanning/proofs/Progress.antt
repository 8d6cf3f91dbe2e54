-- What the loops over terms and entries have read.
use Rattle.std.specs.Prelude.{◌≡◌, ℕ, ◌+◌, ◌-◌, ◌<◌, ◌≤◌, List, [], ◌∷◌, ◌++◌, length}
use Rattle.witness_laws.specs.Lines.{chain_text, numbers_text}
use Rattle.witness_scanning.specs.Numbers.{IsLast}
use Rattle.witness_scanning.specs.Terms.{clipped_terms, ReadsFrom, AreBelow, HasEntries}

-- what a loop has read of so many entries
pub record HasReadEntries (p width : ℕ) (bytes entries rest : List ℕ) : Type 0 where
  pub short : length entries ≤ width
  pub below : AreBelow p entries
  pub split : bytes ≡ numbers_text entries ++ rest
  pub onward : (es u : List ℕ) → HasEntries p width bytes es u
      → (more : List ℕ) × HasEntries p (width - length entries) rest more u

-- what a loop has read of a chain: these terms, all below low; the rest goes on from there
abbrev pub AreWithin : ℕ → ℕ → ℕ → List (ℕ × ℕ) → Type 0
AreWithin p low high [] = low ≤ high
AreWithin p low high (t ∷ ts) = (low ≤ t.0) × (0 < t.1) × (t.1 < p) × AreWithin p (t.0 + 1) high ts

pub record HasRead (p : ℕ) (bytes : List ℕ) (kept : List (ℕ × ℕ))
    (last rest : List ℕ) : Type 0 where
  pub low : ℕ
  pub last_is : IsLast last low
  pub terms : List (ℕ × ℕ)
  pub are : AreWithin p 0 low terms
  pub split : bytes ≡ chain_text terms ++ rest
  pub kept_is : kept ≡ clipped_terms terms
  pub onward : ReadsFrom p 0 bytes → ReadsFrom p low rest
