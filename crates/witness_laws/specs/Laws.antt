-- What the laws of witnesses show: each is the contract of a function with an empty body.
use Rattle.std.specs.Prelude.{◌≡◌, ℕ, ◌<◌, ◌≤◌, ◌^◌, List, ◌∷◌, ◌++◌, Some, decimal}
use Rattle.std.specs.List.{All, flat_map}
use Rattle.witness_laws.specs.declared.law.Law.{Law}
use Rattle.witness_laws.specs.Lines.{domain, range, Line, chain_line, numbers_line, row_line, IsOneLine, lines_of, numeral}
use Rattle.witness_laws.specs.Formats.{Format, MeetsLaws, HaveOneValue, IsFirstFault, IsAccepted}
use Rattle.witness_laws.specs.Inputs.{Target, Given, IsPairClaim, IsMapClaim, IsWithoutFault}
use Rattle.witness_laws.specs.Parts.{entry_of}
use Rattle.witness_laws.specs.Tables.{Tables, IsTables, map_of, section_at, text_of_line, tables_format}

-- the cycles of a value of version 1 that meets the laws are bases
abbrev pub TablesShowBases : Type 0
TablesShowBases =
    (p : ℕ) (G : Given) (W : Tables) → 1 ≤ p → IsTables p G W → MeetsLaws (tables_format p G) W
    → IsPairClaim p G.x G.a (section_at G W domain)

-- and for a map, whose sets have no fault, the values are acyclic, a carried map exists, and the
-- matrices are those of all carried maps
abbrev pub TablesShowMaps : Type 0
TablesShowMaps =
    (p : ℕ) (G : Given) (T : Target) (W : Tables) → 1 ≤ p → G.target ≡ Some T → IsWithoutFault G T
    → IsTables p G W → MeetsLaws (tables_format p G) W
    → IsMapClaim p G.x G.a T (section_at G W domain) (section_at G W range)
    (entry_of (map_of W).matrices)

-- ---- texts

-- the text of each line is one line; a text of such lines has exactly these; one that stands in
-- front is the first; and the lines of a text are the text
pub record TextsHaveTheirLines : Type 0 where
  pub tables : (G : Given) (W : Tables) (line : Line) → IsOneLine (text_of_line G W line)
  pub lines : (ts : List (List ℕ)) → All IsOneLine ts → lines_of (flat_map (λ t. t) ts) ≡ ts
  pub first : (t rest : List ℕ) → IsOneLine t → lines_of (t ++ rest) ≡ t ∷ lines_of rest
  pub joined : (bytes : List ℕ) → flat_map (λ t. t) (lines_of bytes) ≡ bytes

-- a numeral is what is printed of a number
abbrev pub NumeralsArePrinted : Type 0
NumeralsArePrinted = (n : ℕ) → n < 2 ^ 64 → decimal n ≡ numeral n

-- a line tells its numbers and its chain
pub record LinesTellTheirParts : Type 0 where
  pub chain : (word ms ns : List ℕ) (ts us : List (ℕ × ℕ))
      → chain_line word ms ts ≡ chain_line word ns us → (ms ≡ ns) × (ts ≡ us)
  pub numbers : (word ms ns : List ℕ) → numbers_line word ms ≡ numbers_line word ns → ms ≡ ns
  pub row : (k l : ℕ) (es fs : List ℕ) → row_line k es ≡ row_line l fs → (k ≡ l) × (es ≡ fs)

-- of the answers on the lines of a text at most one is right: it has at most one value, at most one
-- first line and law that fail, and none where its value is accepted
pub record HasOneOutcome {V : Type 0} (F : Format V) : Type 0 where
  pub value : HaveOneValue F
  pub fault : (ts : List (List ℕ)) (k l : ℕ) (law other : Law) → IsFirstFault F ts k law
      → IsFirstFault F ts l other → (k ≡ l) × (law ≡ other)
  pub accepted : (ts : List (List ℕ)) (k : ℕ) (law : Law) (v : V) → IsFirstFault F ts k law
      → IsAccepted F ts v → ⊥

-- so it is in version 1
abbrev pub TablesHaveOneOutcome : Type 0
TablesHaveOneOutcome = (p : ℕ) (G : Given) → HasOneOutcome (tables_format p G)
