-- The numbers and the words of chain files, as the format states them.
use Rattle.std.specs.Prelude.{◌≡◌, ℕ, List, codes}
use Rattle.chain_files.specs.declared.fault.TheConstants.{GENERATORS, MAX_DEGREE, TERMS}
use Rattle.chain_files.specs.declared.words.TheConstants.{CHAIN, COMPLEX, MAX, DIMENSION}

-- The greatest degree is from 0 to 63.
abbrev pub greatest_degree : ℕ
greatest_degree = 63

-- A file has at most so many generators in all, and so many terms.
abbrev pub most_generators : ℕ
most_generators = 1048576

abbrev pub most_terms : ℕ
most_terms = 4194304

-- The four words, by their letters.
abbrev pub chain_word : List ℕ
chain_word = codes "chain"

abbrev pub complex_word : List ℕ
complex_word = codes "complex"

abbrev pub max_word : List ℕ
max_word = codes "max"

abbrev pub dimension_word : List ℕ
dimension_word = codes "dimension"

-- Those of the program are these.
pub record NumbersAreTheFormats : Type 0 where
  pub degree : MAX_DEGREE ≡ greatest_degree
  pub generators : GENERATORS ≡ most_generators
  pub terms : TERMS ≡ most_terms
  pub chain : CHAIN ≡ chain_word
  pub complex : COMPLEX ≡ complex_word
  pub max : MAX ≡ max_word
  pub dimension : DIMENSION ≡ dimension_word
