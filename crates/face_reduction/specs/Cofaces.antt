-- How many cofaces of each generator are left, and which is the only one.
use Rattle.std.specs.Prelude.{◌≡◌, ℕ, ◌+◌, ◌%◌, ◌^◌, ◌<◌, ◌⊎◌, true, List, [], length, slice_index_or, Bool, not, ◌&&◌, if◌then◌else◌, ◌==◌, Option, Some, None}
use Rattle.field_mod.specs.Modular.{Same}
use Rattle.field_mod.specs.Sums.{total}
use Rattle.chains.specs.Terms.{coefficient}
use Rattle.chains.specs.ChainComplex.{ChainComplex}
use Rattle.algebraic_reduction.specs.Reduction.{Step}
use Rattle.excision.specs.Left.{is_unpaired, is_one_of}

-- the generator n stands in the chain
abbrev pub stands_in : List (ℕ × ℕ) → ℕ → Bool
stands_in c n = not (coefficient c n == 0)

-- j is in no step, and n stands in its boundary
abbrev pub is_coface : ChainComplex → List Step → ℕ → ℕ → Bool
is_coface K ss n j = is_unpaired ss j && stands_in (slice_index_or K.boundaries j []) n

-- the weights of the numbers below m that the test tells, summed up
abbrev pub weighed : ℕ → (ℕ → Bool) → (ℕ → ℕ) → ℕ
weighed m test weight = total m (λ j. if test j then weight j else 0)

abbrev pub count_at : List (ℕ × ℕ) → ℕ → ℕ
count_at tallies n = (slice_index_or tallies n (0, 0)).0

abbrev pub sum_at : List (ℕ × ℕ) → ℕ → ℕ
sum_at tallies n = (slice_index_or tallies n (0, 0)).1

-- of each generator n: how many numbers below m the test of n tells, and their sum; modulo 2^32
pub record AreTallies (m : ℕ) (test : ℕ → ℕ → Bool) (tallies : List (ℕ × ℕ)) : Type 0 where
  pub counts : (n : ℕ) → n < length tallies
      → Same (2 ^ 32) (count_at tallies n) (weighed m (test n) (λ j. 1))
  pub sums : (n : ℕ) → n < length tallies
      → Same (2 ^ 32) (sum_at tallies n) (weighed m (test n) (λ j. j))

-- the sum, where the count is one; both modulo 2^32
abbrev pub only_of : ℕ → ℕ → Option ℕ
only_of count sum = if count % 2 ^ 32 == 1 then Some (sum % 2 ^ 32) else None

-- the number of the one that is told at n, where it is one
abbrev pub only_at : List (ℕ × ℕ) → ℕ → Option ℕ
only_at tallies n = only_of (count_at tallies n) (sum_at tallies n)

-- at each generator that stands in the chain the count has changed by one and the sum by number
pub record AddsAt (c : List (ℕ × ℕ)) (one number : ℕ) (old new : List (ℕ × ℕ)) : Type 0 where
  pub size : length new ≡ length old
  pub counts : (n : ℕ) → n < length old
      → Same (2 ^ 32) (count_at new n) (count_at old n + (if stands_in c n then one else 0))
  pub sums : (n : ℕ) → n < length old
      → Same (2 ^ 32) (sum_at new n) (sum_at old n + (if stands_in c n then number else 0))

-- n waits, unless no number or more than one is told there
abbrev pub WaitsIfFree : List (ℕ × ℕ) → List ℕ → ℕ → Type 0
WaitsIfFree tallies waiting n = (is_one_of waiting n ≡ true) ⊎ (only_at tallies n ≡ None)

-- the tallies are those of the cofaces of all generators of K that are in no step
pub record CountCofaces (K : ChainComplex) (ss : List Step) (tallies : List (ℕ × ℕ)) : Type 0 where
  pub size : length tallies ≡ length K.boundaries
  pub told : AreTallies (length K.boundaries) (is_coface K ss) tallies
