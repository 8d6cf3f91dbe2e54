-- Terms, chains and rows at the front of a text.
use Rattle.std.specs.Prelude.{◌≡◌, ℕ, ◌<◌, ◌≤◌, List, [], ◌∷◌, ◌++◌, length, map}
use Rattle.witness_laws.specs.Lines.{numeral, chain_text, numbers_text}
use Rattle.witness_laws.specs.Parts.{AreTerms}
use Rattle.witness_scanning.specs.Numbers.{NoDigit, clipped, IsLast}

-- what is kept of terms: their numbers as far as they count
abbrev pub clipped_terms : List (ℕ × ℕ) → List (ℕ × ℕ)
clipped_terms ts = map (λ t. (clipped t.0, t.1)) ts

-- the term at the front
pub record HasTerm (p : ℕ) (bytes : List ℕ) (coefficient : ℕ) (digits rest : List ℕ) : Type 0 where
  pub number : ℕ
  pub written : digits ≡ numeral number
  pub some : 0 < coefficient
  pub below : coefficient < p
  pub split : bytes ≡ 32 ∷ (numeral coefficient ++ (42 ∷ (digits ++ rest)))
  pub ends : NoDigit rest

abbrev pub HasNoTerm : ℕ → List ℕ → Type 0
HasNoTerm p bytes = (c n : ℕ) (rest : List ℕ) → 0 < c → c < p → NoDigit rest → bytes ≡ 32 ∷
    (numeral c ++ (42 ∷ (numeral n ++ rest))) → ⊥

-- with a number above the last one
pub record HasNext (p : ℕ) (last bytes : List ℕ) (coefficient : ℕ)
    (digits rest : List ℕ) : Type 0 where
  pub term : HasTerm p bytes coefficient digits rest
  pub above : (low : ℕ) → IsLast last low → low ≤ term.number

abbrev pub HasNoNext : ℕ → List ℕ → List ℕ → Type 0
HasNoNext p last bytes = (low c n : ℕ) (rest : List ℕ) → IsLast last low → low ≤ n → 0 < c
    → c < p → NoDigit rest → bytes ≡ 32 ∷ (numeral c ++ (42 ∷ (numeral n ++ rest))) → ⊥

-- a chain with numbers from low on, up to the end of the line
pub record ReadsFrom (p low : ℕ) (bytes : List ℕ) : Type 0 where
  pub terms : List (ℕ × ℕ)
  pub rest : List ℕ
  pub are : AreTerms p low terms
  pub split : bytes ≡ chain_text terms ++ 10 ∷ rest

-- a chain up to the end of the line, of which this is kept
pub record HasChain (p : ℕ) (bytes : List ℕ) (kept : List (ℕ × ℕ)) (rest : List ℕ) : Type 0 where
  pub terms : List (ℕ × ℕ)
  pub are : AreTerms p 0 terms
  pub split : bytes ≡ chain_text terms ++ 10 ∷ rest
  pub kept_is : kept ≡ clipped_terms terms

abbrev pub HasNoChain : ℕ → List ℕ → Type 0
HasNoChain p bytes = ReadsFrom p 0 bytes → ⊥

-- a number below p at the front
pub record HasEntry (p : ℕ) (bytes : List ℕ) (number : ℕ) (rest : List ℕ) : Type 0 where
  pub below : number < p
  pub split : bytes ≡ 32 ∷ (numeral number ++ rest)
  pub ends : NoDigit rest

abbrev pub HasNoEntry : ℕ → List ℕ → Type 0
HasNoEntry p bytes = (n : ℕ) (rest : List ℕ) → n < p → NoDigit rest → bytes ≡ 32 ∷
    (numeral n ++ rest) → ⊥

abbrev pub AreBelow : ℕ → List ℕ → Type 0
AreBelow p [] = Unit {0}
AreBelow p (e ∷ es) = (e < p) × AreBelow p es

-- so many numbers below p, up to the end of the line
pub record HasEntries (p width : ℕ) (bytes entries rest : List ℕ) : Type 0 where
  pub many : length entries ≡ width
  pub below : AreBelow p entries
  pub split : bytes ≡ numbers_text entries ++ 10 ∷ rest

abbrev pub HasNoEntries : ℕ → ℕ → List ℕ → Type 0
HasNoEntries p width bytes = (entries rest : List ℕ) → HasEntries p width bytes entries rest → ⊥
