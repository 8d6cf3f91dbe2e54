-- One line that is due: it stands at the front and names cells that it may name, or it fails.
use Rattle.std.specs.Prelude.{◌≡◌, ℕ, ◌+◌, ◌≤◌, List, [], ◌∷◌, ◌++◌, codes}
use Rattle.witness_laws.specs.Lines.{chain_line, numbers_line}
use Rattle.witness_laws.specs.Parts.{AreTerms}
use Rattle.witness_scanning.specs.Lines.{HasNoChainLine, HasNoCycleLine, HasNoVertexLine}
use Rattle.witness_runs.specs.declared.miss.Miss.{Miss}
use Rattle.witness_runs.specs.declared.miss.Miss.TheVariants as misses
use Rattle.witness_runs.specs.Kinds.{IsOfKind, NamesKind}

-- the line of a word, numbers and a chain, whose terms name cells of the kind
pub record IsDueChain (p : ℕ) (word ns kinds : List ℕ) (wanted : ℕ) (bytes : List ℕ)
    (terms : List (ℕ × ℕ)) (rest : List ℕ) : Type 0 where
  pub are : AreTerms p 0 terms
  pub split : bytes ≡ chain_line word ns terms ++ rest
  pub names : NamesKind kinds wanted terms

-- such a line, whose terms do not
pub record IsOtherChain (p : ℕ) (word ns kinds : List ℕ) (wanted : ℕ) (bytes : List ℕ) : Type 0
  where
    pub terms : List (ℕ × ℕ)
    pub rest : List ℕ
    pub are : AreTerms p 0 terms
    pub split : bytes ≡ chain_line word ns terms ++ rest
    pub other : NamesKind kinds wanted terms → ⊥

abbrev pub MissesChain : ℕ → List ℕ → List ℕ → List ℕ → ℕ → List ℕ → Miss → Type 0
MissesChain p word ns kinds wanted bytes misses.Text = HasNoChainLine word ns p bytes
MissesChain p word ns kinds wanted bytes misses.Cell = IsOtherChain p word ns kinds wanted bytes
MissesChain p word ns kinds wanted bytes misses.NoMemory = Unit {0}

-- terms that do not name cells of the kind
abbrev pub MissesKind : List ℕ → ℕ → List (ℕ × ℕ) → Miss → Type 0
MissesKind kinds wanted terms misses.Text = ⊥
MissesKind kinds wanted terms misses.Cell = NamesKind kinds wanted terms → ⊥
MissesKind kinds wanted terms misses.NoMemory = Unit {0}

-- the line of a cycle, of a degree from low to top, whose terms name cells of the kind of the
-- degree
pub record IsDueCycle (p low top : ℕ) (kinds bytes : List ℕ) (degree : ℕ) (terms : List (ℕ × ℕ))
    (rest : List ℕ) : Type 0 where
  pub above : low ≤ degree
  pub below : degree ≤ top
  pub due : IsDueChain p (codes "z") (degree ∷ []) kinds (degree + 1) bytes terms rest

pub record IsOtherCycle (p low top : ℕ) (kinds bytes : List ℕ) : Type 0 where
  pub degree : ℕ
  pub above : low ≤ degree
  pub below : degree ≤ top
  pub other : IsOtherChain p (codes "z") (degree ∷ []) kinds (degree + 1) bytes

abbrev pub MissesCycle : ℕ → ℕ → ℕ → List ℕ → List ℕ → Miss → Type 0
MissesCycle p low top kinds bytes misses.Text = HasNoCycleLine low top p bytes
MissesCycle p low top kinds bytes misses.Cell = IsOtherCycle p low top kinds bytes
MissesCycle p low top kinds bytes misses.NoMemory = Unit {0}

-- the line of the vertex for the cell of number i, which is of the kind
pub record IsDueVertex (i : ℕ) (kinds : List ℕ) (wanted : ℕ) (bytes : List ℕ) (vertex : ℕ)
    (rest : List ℕ) : Type 0 where
  pub split : bytes ≡ numbers_line (codes "v") (i ∷ vertex ∷ []) ++ rest
  pub names : IsOfKind kinds wanted vertex

pub record IsOtherVertex (i : ℕ) (kinds : List ℕ) (wanted : ℕ) (bytes : List ℕ) : Type 0 where
  pub vertex : ℕ
  pub rest : List ℕ
  pub split : bytes ≡ numbers_line (codes "v") (i ∷ vertex ∷ []) ++ rest
  pub other : IsOfKind kinds wanted vertex → ⊥

abbrev pub MissesVertex : ℕ → List ℕ → ℕ → List ℕ → Miss → Type 0
MissesVertex i kinds wanted bytes misses.Text = HasNoVertexLine i bytes
MissesVertex i kinds wanted bytes misses.Cell = IsOtherVertex i kinds wanted bytes
MissesVertex i kinds wanted bytes misses.NoMemory = Unit {0}
