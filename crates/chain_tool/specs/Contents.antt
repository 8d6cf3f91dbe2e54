-- Chain complexes of files.
use Rattle.std.specs.Prelude.{◌≡◌, ◌⊎◌, ℕ, List, Result, Ok, Err}
use Rattle.chain_files.specs.Content.{Content}
use Rattle.chain_files.specs.ChainFile.{HasValue, IsRefusedAt}
use Rattle.chain_files.specs.Complexes.{SquaresToZero, IsNotComplexAt}
use Rattle.chain_files.specs.declared.fault.ChainCause.{ChainCause}
use Rattle.chain_files.specs.declared.fault.ChainCause.TheVariants as texts
use Rattle.faults.specs.declared.cause.Cause.TheVariants as causes
use Rattle.faults.specs.declared.fault.Fault.{Fault}
use Rattle.faults.specs.declared.fault.Fault.TheVariants.{BadText, NotComplex, Limit, OutOfMemory}
use Rattle.faults.specs.declared.limit_name.LimitName.TheVariants.{Generators, Terms}
use Rattle.loading.specs.Steps.{Then}
use Rattle.loading.specs.Readings.{Reading, Finds, file_bytes}

-- the most generators and terms of one chain file
abbrev pub most_generators : ℕ
most_generators = 1048576

abbrev pub most_terms : ℕ
most_terms = 4194304

-- the refusal of a text: its place and cause, but too many generators or terms are told as the
-- limit that they pass
abbrev pub chain_fault : List ℕ → ℕ → ChainCause → Fault
chain_fault name place texts.BadByte = BadText name place causes.BadByte
chain_fault name place texts.BadNumber = BadText name place causes.BadNumber
chain_fault name place texts.Unclosed = BadText name place causes.NotClosed
chain_fault name place texts.UnknownGenerator = BadText name place causes.UnknownGenerator
chain_fault name place texts.RepeatedGenerator = BadText name place causes.RepeatedGenerator
chain_fault name place texts.TooManyGenerators = Limit Generators most_generators
chain_fault name place texts.TooManyTerms = Limit Terms most_terms

-- what a text says modulo p, by the grammar of chain files
abbrev pub IsValueOf : ℕ → List ℕ → List ℕ → Result Content Fault → Type 0
IsValueOf p name text (Ok content) = HasValue p text content
IsValueOf p name text (Err fault) = (place : ℕ) × (cause : ChainCause)
    × IsRefusedAt p text place cause × (fault ≡ chain_fault name place cause)

-- that it is a complex: the boundary of a boundary is 0 everywhere, or not 0 first there
abbrev pub IsComplexOf : ℕ → List ℕ → Content → Result Content Fault → Type 0
IsComplexOf p name content (Ok complex) = SquaresToZero p content × (complex ≡ content)
IsComplexOf p name content (Err fault) = (degree : ℕ) × (generator : ℕ) × (at : ℕ) × (value : ℕ)
    × IsNotComplexAt p content degree generator at value
    × (fault ≡ NotComplex name degree generator value at)

-- the complex of a text: what it says, and then that this is one
abbrev pub IsContentOf : ℕ → List ℕ → List ℕ → Result Content Fault → Type 0
IsContentOf p name text = Then (IsValueOf p name text) (IsComplexOf p name)

-- the text is refused so, or memory ran out
abbrev pub IsRefusal : ℕ → List ℕ → List ℕ → Fault → Type 0
IsRefusal p name text fault = IsContentOf p name text (Err fault) ⊎ (fault ≡ OutOfMemory)

-- the complex of a file: its reading, and then its text
abbrev pub IsContentIn : ℕ → List ℕ → Reading → Result Content Fault → Type 0
IsContentIn p name read = Then (Finds read file_bytes name) (IsContentOf p name)
