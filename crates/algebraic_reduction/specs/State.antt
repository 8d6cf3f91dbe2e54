-- What the fields of a log hold together.
use Rattle.std.specs.Prelude.{◌≡◌, ℕ, ◌<◌, ◌≤◌, List, [], length, slice_index, slice_index_or, Option, Some, None}
use Rattle.field_mod.specs.Modular.{NonZero}
use Rattle.chains.specs.ChainComplex.{ChainComplex, IsComplex, incidence}
use Rattle.algebraic_reduction.specs.Reduction.{IsUnpaired}
use Rattle.algebraic_reduction.specs.Laws.{AreStepsOf}
use Rattle.algebraic_reduction.specs.LogWords.{AreFurther}
use Rattle.algebraic_reduction.specs.Kept.{KeptStep, steps_of, AreKept, a_at, b_at, row_at}

-- x stands in the list at a place from k on
abbrev pub StandsFrom : ℕ → List ℕ → ℕ → Type 0
StandsFrom k xs x = (j : ℕ) × (k ≤ j) × (j < length xs) × (slice_index xs j ≡ x)

-- the list of generators at g names h
abbrev pub Names : List (List ℕ) → ℕ → ℕ → Type 0
Names lists g h = StandsFrom 0 (slice_index_or lists g []) h

-- the lists name what they named
abbrev pub NamesStay : List (List ℕ) → List (List ℕ) → Type 0
NamesStay old new = (g h : ℕ) → Names old g h → Names new g h

-- the step that a generator is in
abbrev pub place_at : List (Option ℕ) → ℕ → Option ℕ
place_at places g = slice_index_or places g None

-- the step of each generator, and the kept steps, are those of a reduction of K
pub record IsState (p : ℕ) (K : ChainComplex) (places : List (Option ℕ))
    (ks : List KeptStep) : Type 0 where
  pub complex : IsComplex p K
  pub places_count : length places ≡ length K.boundaries
  pub steps : AreStepsOf p K (steps_of ks)
  pub kept : AreKept p (incidence K.boundaries) ks
  pub placed : (i : ℕ) → i < length ks → (place_at places (a_at ks i) ≡ Some i) ×
      (place_at places (b_at ks i) ≡ Some i)
  pub in_step : (g i : ℕ) → place_at places g ≡ Some i
      → (i < length ks) × (IsUnpaired (steps_of ks) g → ⊥)
  pub in_none : (g : ℕ) → place_at places g ≡ None → IsUnpaired (steps_of ks) g

-- the list at each of the n generators names the b of all steps in whose row it stands
pub record AreNames (p n : ℕ) (ks : List KeptStep) (lists : List (List ℕ)) : Type 0 where
  pub count : length lists ≡ n
  pub named : (i g : ℕ) → i < length ks → g < n → NonZero p (row_at ks i g)
      → Names lists g (b_at ks i)

-- a later state: the complex is the same, and the steps are the old ones and further ones
pub record GoesOn (K K' : ChainComplex) (ks ks' : List KeptStep) : Type 0 where
  pub complex : K' ≡ K
  pub further : AreFurther (steps_of ks) (steps_of ks')

-- what a log holds: its index is that of the rows, where there is one at all
pub record IsLog (p : ℕ) (K : ChainComplex) (places : List (Option ℕ)) (ks : List KeptStep)
    (lists : List (List ℕ)) : Type 0 where
  pub state : IsState p K places ks
  pub names : length lists ≡ length K.boundaries → AreNames p (length K.boundaries) ks lists
