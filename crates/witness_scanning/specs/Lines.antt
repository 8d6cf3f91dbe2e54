-- Whole lines at the front of a text.
use Rattle.std.specs.Prelude.{◌≡◌, ℕ, ◌≤◌, List, [], ◌∷◌, ◌++◌, length, codes}
use Rattle.witness_laws.specs.Lines.{numeral, chain_line, numbers_line, row_line}
use Rattle.witness_laws.specs.Parts.{AreTerms}
use Rattle.witness_scanning.specs.Fronts.{numbers_front}
use Rattle.witness_scanning.specs.Numbers.{clipped}
use Rattle.witness_scanning.specs.Terms.{clipped_terms, AreBelow}

-- the line of a word, numbers and a chain, of which this is kept
pub record HasChainLine (word ns : List ℕ) (p : ℕ) (bytes : List ℕ) (kept : List (ℕ × ℕ))
    (rest : List ℕ) : Type 0 where
  pub terms : List (ℕ × ℕ)
  pub are : AreTerms p 0 terms
  pub split : bytes ≡ chain_line word ns terms ++ rest
  pub kept_is : kept ≡ clipped_terms terms

abbrev pub HasNoChainLine : List ℕ → List ℕ → ℕ → List ℕ → Type 0
HasNoChainLine word ns p bytes = (ts : List (ℕ × ℕ)) (rest : List ℕ) → AreTerms p 0 ts → bytes
    ≡ chain_line word ns ts ++ rest → ⊥

-- the row of a degree, with so many entries below p
pub record HasRowLine (degree width p : ℕ) (bytes entries rest : List ℕ) : Type 0 where
  pub many : length entries ≡ width
  pub below : AreBelow p entries
  pub split : bytes ≡ row_line degree entries ++ rest

abbrev pub HasNoRowLine : ℕ → ℕ → ℕ → List ℕ → Type 0
HasNoRowLine degree width p bytes = (entries rest : List ℕ)
    → HasRowLine degree width p bytes entries rest → ⊥

-- a number between a space and a mark, of which this is kept
pub record HasNumberBefore (mark : ℕ) (bytes : List ℕ) (kept : ℕ) (rest : List ℕ) : Type 0 where
  pub number : ℕ
  pub split : bytes ≡ 32 ∷ (numeral number ++ (mark ∷ rest))
  pub kept_is : kept ≡ clipped number

abbrev pub HasNoNumberBefore : ℕ → List ℕ → Type 0
HasNoNumberBefore mark bytes = (n : ℕ) (rest : List ℕ) → bytes ≡ 32 ∷ (numeral n ++
    (mark ∷ rest)) → ⊥

-- the line of the vertex in the value at the cell of number i
pub record HasVertexLine (i : ℕ) (bytes : List ℕ) (kept : ℕ) (rest : List ℕ) : Type 0 where
  pub vertex : ℕ
  pub split : bytes ≡ numbers_line (codes "v") (i ∷ vertex ∷ []) ++ rest
  pub kept_is : kept ≡ clipped vertex

abbrev pub HasNoVertexLine : ℕ → List ℕ → Type 0
HasNoVertexLine i bytes = (j : ℕ) (rest : List ℕ) → bytes ≡ numbers_line (codes "v")
    (i ∷ j ∷ []) ++ rest → ⊥

-- the head of the line of a cycle
pub record HasDegree (low top : ℕ) (bytes : List ℕ) (degree : ℕ) (rest : List ℕ) : Type 0 where
  pub above : low ≤ degree
  pub below : degree ≤ top
  pub split : bytes ≡ numbers_front (codes "z") (degree ∷ []) (codes ":") ++ rest

abbrev pub HasNoDegree : ℕ → ℕ → List ℕ → Type 0
HasNoDegree low top bytes = (k : ℕ) (rest : List ℕ) → low ≤ k → k ≤ top → bytes ≡ numbers_front
    (codes "z") (k ∷ []) (codes ":") ++ rest → ⊥

-- the line of a cycle, of a degree from low to top
pub record HasCycleLine (low top p : ℕ) (bytes : List ℕ) (degree : ℕ) (kept : List (ℕ × ℕ))
    (rest : List ℕ) : Type 0 where
  pub above : low ≤ degree
  pub below : degree ≤ top
  pub line : HasChainLine (codes "z") (degree ∷ []) p bytes kept rest

abbrev pub HasNoCycleLine : ℕ → ℕ → ℕ → List ℕ → Type 0
HasNoCycleLine low top p bytes = (k : ℕ) → low ≤ k → k ≤ top → HasNoChainLine (codes "z")
    (k ∷ []) p bytes
