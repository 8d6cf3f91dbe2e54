-- What follows in a text that has a value, by what is due.
use Rattle.std.proofs.Common.{◌≡◌, ◌<◌, ◌⊎◌, ℕ, ◌+◌, ℤ, pos, List, ◌∷◌, Bool, true, false, Result, Ok}
use Rattle.outside.specs.Tokens.{Lexeme, number, word, mark}
use Rattle.chain_files.specs.Content.{Content}
use Rattle.chain_files.specs.Known.{Known, residue, with_top, with_degree, with_boundary, with_count, with_term}
use Rattle.chain_files.specs.Items.{Item, spelled, Gathers}
use Rattle.chain_files.specs.declared.due.Due.{Due}
use Rattle.chain_files.specs.declared.due.Due.TheVariants.{Chain, Complex, Max, Dimension, Top, Between, Degree, Colon, Count, Generator, Equals, First, Zero, Times, Target, Further, Coefficient}
use Rattle.chain_files.specs.declared.fault.ChainCause.{ChainCause}
use Rattle.chain_files.specs.Numbers.{most_terms, chain_word, complex_word, max_word, dimension_word}

-- items, up to the greatest degree
pub record Rest (p : ℕ) (s : Known) (behind_term : Bool) (content : Content) (ls : List Lexeme) : Type 0 where
  pub items : List Item
  pub all : Known
  pub spelling : ls ≡ spelled items
  pub gathers : Gathers p s behind_term items all
  pub whole : all.next ≡ all.content.top + 1
  pub is_content : content ≡ all.content

-- one token, and then what is told of the rest
pub record Token (l : Lexeme) (more : List Lexeme → Type 0) (ls : List Lexeme) : Type 0 where
  pub rest : List Lexeme
  pub is : ls ≡ l ∷ rest
  pub then : more rest

-- a number that makes something of what is known, and then what is told of the rest
pub record Made (make : ℤ → Result Known ChainCause) (more : Known → List Lexeme → Type 0) (ls : List Lexeme) : Type 0 where
  pub z : ℤ
  pub now : Known
  pub made : make z ≡ Ok now
  pub token : Token (number z) (more now) ls

-- the greatest degree, and items
abbrev pub AtTop : ℕ → Known → Content → List Lexeme → Type 0
AtTop p s content ls = Made (with_top s) (λ now. Rest p now false content) ls

-- how many generators a degree has, and items
abbrev pub AtCount : ℕ → Known → ℕ → Content → List Lexeme → Type 0
AtCount p s k content ls = Made (with_degree s k) (λ now. Rest p now false content) ls

abbrev pub AtColon : ℕ → Known → ℕ → Content → List Lexeme → Type 0
AtColon p s k content ls = Token (mark 58) (AtCount p s k content) ls

abbrev pub AtDegree : ℕ → Known → ℕ → Content → List Lexeme → Type 0
AtDegree p s k content ls = Token (number (pos k)) (AtColon p s k content) ls

-- the generator of a term with this coefficient, and items behind a term
abbrev pub AtTarget : ℕ → Known → ℕ → Content → List Lexeme → Type 0
AtTarget p s c content ls = Made (with_term s c) (λ now. Rest p now true content) ls

pub record AtTimes (p : ℕ) (s : Known) (c : ℕ) (content : Content) (ls : List Lexeme) : Type 0 where
  pub few : s.terms < most_terms
  pub token : Token (mark 42) (AtTarget p (with_count s) c content) ls

pub record AtCoefficient (p : ℕ) (s : Known) (content : Content) (ls : List Lexeme) : Type 0 where
  pub c : ℤ
  pub token : Token (number c) (AtTimes p s (residue p c) content) ls

-- behind `=`: the number 0 and items, or a term
abbrev pub AtFirst : ℕ → Known → Content → List Lexeme → Type 0
AtFirst p s content ls = Token (number (pos 0)) (Rest p s false content) ls ⊎ AtCoefficient p s content ls

abbrev pub AtEquals : ℕ → Known → Content → List Lexeme → Type 0
AtEquals p s content ls = Token (mark 61) (AtFirst p s content) ls

abbrev pub AtGenerator : ℕ → Known → Content → List Lexeme → Type 0
AtGenerator p s content ls = Made (with_boundary s) (λ now. AtEquals p now content) ls

abbrev pub Follows : ℕ → Known → Due → Content → List Lexeme → Type 0
Follows p s Chain content ls = Token (word chain_word) (Token (word complex_word) (Token (word max_word) (Token (word dimension_word) (AtTop p s content)))) ls
Follows p s Complex content ls = Token (word complex_word) (Token (word max_word) (Token (word dimension_word) (AtTop p s content))) ls
Follows p s Max content ls = Token (word max_word) (Token (word dimension_word) (AtTop p s content)) ls
Follows p s Dimension content ls = Token (word dimension_word) (AtTop p s content) ls
Follows p s Top content ls = AtTop p s content ls
Follows p s Between content ls = Rest p s false content ls
Follows p s (Degree k) content ls = AtDegree p s k content ls
Follows p s (Colon k) content ls = AtColon p s k content ls
Follows p s (Count k) content ls = AtCount p s k content ls
Follows p s Generator content ls = AtGenerator p s content ls
Follows p s Equals content ls = AtEquals p s content ls
Follows p s First content ls = AtFirst p s content ls
Follows p s (Zero place) content ls = Rest p s false content ls ⊎ AtTimes p s 0 content ls
Follows p s (Times place c) content ls = AtTimes p s c content ls
Follows p s (Target c) content ls = AtTarget p s c content ls
Follows p s Further content ls = Rest p s true content ls
Follows p s Coefficient content ls = AtCoefficient p s content ls
