-- How a complex is made of what a chain file says.
use Rattle.std.specs.Prelude.{◌≡◌, ◌<◌, ◌+◌, ◌%◌, ℕ, List, [], length, take, sum, slice_index, slice_index_or}
use Rattle.chains.specs.Terms.{coefficient}
use Rattle.chains.specs.ChainComplex.{IsBadDegree}
use Rattle.chains.specs.declared.complex.ComplexFault.{ComplexFault}
use Rattle.chains.specs.declared.complex.ComplexFault.TheVariants as complexes
use Rattle.chain_files.specs.Content.{Boundary, not_given, Content, terms_of}
use Rattle.chain_files.specs.Complexes.{count_in, number_in_degree, IsNotComplexAt}
use Rattle.chain_files.specs.declared.fault.ChainFault.{ChainFault}
use Rattle.chain_files.specs.declared.fault.ChainFault.TheVariants.{At, NotComplex, NoMemory}

-- the chains of the boundaries modulo p
pub record AreChains (p : ℕ) (boundaries : List Boundary) (chains : List (List (ℕ × ℕ))) : Type 0
  where
    pub long : length chains ≡ length boundaries
    pub each : (h g : ℕ) → h < length boundaries
        → coefficient (slice_index_or chains h []) g
        ≡ coefficient (slice_index_or boundaries h not_given).terms g % p

-- for each degree up to the greatest, how many generators have it
pub record AreCounts (degrees : List ℕ) (top : ℕ) (counts : List ℕ) : Type 0 where
  pub long : length counts ≡ top + 1
  pub each : (k : ℕ) → k < length counts → slice_index counts k ≡ count_in degrees k

-- at each of the first n places the sum of the numbers before it
pub record AreSumsBefore (numbers : List ℕ) (n : ℕ) (sums : List ℕ) : Type 0 where
  pub long : length sums ≡ n
  pub each : (k : ℕ) → k < n → slice_index sums k ≡ sum (take k numbers)

-- each term of a boundary names a generator of one degree less
abbrev pub IsGraded : Content → Type 0
IsGraded content = (h g : ℕ) → ¬ IsBadDegree content.degrees (terms_of content.boundaries) h g

-- a fault of so many generators, none of which is of a wrong degree
abbrev pub IsWithin : ℕ → ComplexFault → Type 0
IsWithin n (complexes.NotZero h g value) = (h < n) × (g < n)
IsWithin n (complexes.BadDegree h g) = ⊥
IsWithin n complexes.NoMemory = Unit {0}

-- a fault in the words of a file, where its generators have these degrees
abbrev pub in_words : List ℕ → ComplexFault → ChainFault
in_words degrees (complexes.NotZero h g value) = NotComplex (slice_index degrees h)
    (number_in_degree degrees h) (number_in_degree degrees g) value
in_words degrees (complexes.BadDegree h g) = NoMemory
in_words degrees complexes.NoMemory = NoMemory

-- why there is no complex of a file
abbrev pub IsComplexFault : ℕ → Content → ChainFault → Type 0
IsComplexFault p content (At place cause) = ⊥
IsComplexFault p content (NotComplex degree generator at value) = IsNotComplexAt p content degree
    generator at value
IsComplexFault p content NoMemory = Unit {0}
