-- The chain complex of a chain file, and where its boundary of a boundary is not 0.
use Rattle.std.specs.Prelude.{◌≡◌, ℕ, ◌+◌, ◌%◌, ◌<◌, ◌≤◌, List, length, take, ◌==◌, nat_lt, slice_index, if◌then◌else◌}
use Rattle.std.specs.List.{count_by}
use Rattle.chains.specs.Terms.{coefficient}
use Rattle.chains.specs.ChainComplex.{ChainComplex, incidence, boundary, IsFirst, IsNotZero}
use Rattle.chain_files.specs.Content.{Content, terms_of}

-- A complex with the greatest degree that its file names.
pub record FileComplex : Type 0 where
  pub top : ℕ
  pub complex : ChainComplex

-- How many generators have this degree.
abbrev pub count_in : List ℕ → ℕ → ℕ
count_in degrees k = count_by (λ d. d == k) degrees

-- How many generators have a lower degree.
abbrev pub count_below : List ℕ → ℕ → ℕ
count_below degrees k = count_by (λ d. nat_lt d k) degrees

-- For each degree up to the greatest, how many generators have a lower one.
pub record AreCountsBelow (degrees : List ℕ) (top : ℕ) (counts : List ℕ) : Type 0 where
  pub long : length counts ≡ top + 1
  pub each : (k : ℕ) → k ≤ top → slice_index counts k ≡ count_below degrees k

-- The generators with these degrees are numbered degree by degree, up to the greatest.
pub record AreByDegree (top : ℕ) (degrees : List ℕ) : Type 0 where
  pub ascending : (i j : ℕ) → i ≤ j → j < length degrees → slice_index degrees i
      ≤ slice_index degrees j
  pub most : (i : ℕ) → i < length degrees → slice_index degrees i ≤ top

-- The complex of a file modulo p: the generators of the file with their degrees, and as incidence
-- number of two of them the sum of the coefficients in the terms of the one that name the other.
pub record IsFileComplex (p : ℕ) (content : Content) (file : FileComplex) : Type 0 where
  pub top : file.top ≡ content.top
  pub degrees : file.complex.degrees ≡ content.degrees
  pub sizes : length file.complex.boundaries ≡ length content.boundaries
  pub incidences : (h g : ℕ) → h < length content.boundaries
      → incidence file.complex.boundaries h g ≡ incidence (terms_of content.boundaries) h g % p

-- The generators and terms as they stand in the file, where the terms of one generator are neither
-- summed nor sorted.
abbrev pub listed : Content → ChainComplex
listed content = record { degrees = content.degrees; boundaries = terms_of content.boundaries }

-- The number of a generator in its degree, from 1 on: how many generators up to it have that
-- degree.
abbrev pub number_in_degree : List ℕ → ℕ → ℕ
number_in_degree degrees h = count_in (take h degrees) (slice_index degrees h) + 1

-- A chain of degree k whose terms name generators by their numbers in that degree, as a function of
-- all generators of a file.
abbrev pub chain_in_degree : List ℕ → ℕ → List (ℕ × ℕ) → ℕ → ℕ
chain_in_degree degrees k ts h = if slice_index degrees h == k
    then coefficient ts (number_in_degree degrees h) else 0

-- What stands in the file is a complex modulo p: the boundary of the boundary of each generator is
-- 0.
abbrev pub SquaresToZero : ℕ → Content → Type 0
SquaresToZero p content = (h g : ℕ) → ¬ IsNotZero p (terms_of content.boundaries) h g

-- The boundary of the boundary of a generator is not 0 modulo p at another one, and these are the
-- first two for which that holds, by degree and number in the degree.
pub record IsNotComplexAt (p : ℕ) (content : Content) (degree generator at value : ℕ) : Type 0 where
  pub h : ℕ
  pub g : ℕ
  pub first : IsFirst (IsNotZero p (terms_of content.boundaries)) h g
  pub degree_is : degree ≡ slice_index content.degrees h
  pub generator_is : generator ≡ number_in_degree content.degrees h
  pub at_is : at ≡ number_in_degree content.degrees g
  pub value_is : value ≡ boundary (terms_of content.boundaries)
      (incidence (terms_of content.boundaries) h) g % p
