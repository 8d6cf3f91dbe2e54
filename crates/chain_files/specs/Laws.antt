-- The laws of chain files. Modulo p, a text has exactly one value, or is refused at exactly one
-- place with one cause.
use Rattle.std.specs.Prelude.{◌≡◌, ◌⊎◌, ◌↔◌, ℕ, List}
use Rattle.chains.specs.ChainComplex.{IsComplex, IsBasisOf}
use Rattle.chain_files.specs.Content.{Content}
use Rattle.chain_files.specs.ChainFile.{HasValue, IsRefusedAt}
use Rattle.chain_files.specs.Complexes.{FileComplex, IsFileComplex, listed, SquaresToZero, IsNotComplexAt}
use Rattle.chain_files.specs.declared.fault.ChainCause.{ChainCause}

pub record TextsHaveOneOutcome : Type 0 where
  pub some : (p : ℕ) (text : List ℕ)
      → ((content : Content) × HasValue p text content)
      ⊎ ((place : ℕ) × (cause : ChainCause) × IsRefusedAt p text place cause)
  pub one_value : (p : ℕ) (text : List ℕ) (content other : Content) → HasValue p text content
      → HasValue p text other → content ≡ other
  pub one_place : (p : ℕ) (text : List ℕ) (place other : ℕ) (cause why : ChainCause)
      → IsRefusedAt p text place cause → IsRefusedAt p text other why → (place ≡ other)
      × (cause ≡ why)
  pub never_both : (p : ℕ) (text : List ℕ) (content : Content) (place : ℕ) (cause : ChainCause)
      → HasValue p text content → ¬ IsRefusedAt p text place cause

-- Modulo p, what stands in a file is a complex, or its boundary of a boundary is not 0 first in
-- exactly one place, with one value.
pub record ValuesHaveOneOutcome : Type 0 where
  pub some : (p : ℕ) (content : Content)
      → SquaresToZero p content ⊎ ((degree : ℕ) × (generator : ℕ) × (at : ℕ) × (value : ℕ)
      × IsNotComplexAt p content degree generator at value)
  pub one_place : (p : ℕ) (content : Content)
      (degree other generator named at place value number : ℕ)
      → IsNotComplexAt p content degree generator at value
      → IsNotComplexAt p content other named place number
      → (degree ≡ other) × (generator ≡ named) × (at ≡ place) × (value ≡ number)
  pub never_both : (p : ℕ) (content : Content) (degree generator at value : ℕ)
      → SquaresToZero p content → ¬ IsNotComplexAt p content degree generator at value

-- The complex of a file shows that what stands in the file is one.
abbrev pub FileComplexesAreComplexes : Type 0
FileComplexesAreComplexes = (p : ℕ) (content : Content) (file : FileComplex)
    → IsFileComplex p content file → IsComplex p file.complex → SquaresToZero p content

-- A basis of the homology of the complex of a file is one of what stands in the file, and the other
-- way round.
abbrev pub BasesAreOfTheFile : Type 0
BasesAreOfTheFile = (p k : ℕ) (content : Content) (file : FileComplex) (zs : List (List (ℕ × ℕ)))
    → IsFileComplex p content file
    → (IsBasisOf p file.complex k zs ↔ IsBasisOf p (listed content) k zs)
