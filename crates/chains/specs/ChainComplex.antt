-- Chain complexes over numbered generators, and what keeps lists from being one.
use Rattle.std.specs.Prelude.{◌≡◌, ◌≢◌, ℕ, ◌+◌, ◌*◌, ◌<◌, ◌≤◌, ◌^◌, List, [], length, slice_index, slice_index_or, nat_lt}
use Rattle.field_mod.specs.Sums.{total}
use Rattle.field_mod.specs.Modular.{Same, NonZero}
use Rattle.chains.specs.Terms.{coefficient, nth_chain, IsNormal}
use Rattle.chains.specs.Homology.{System, IsBasis}

-- the degree of each generator, and the terms of its boundary; the generators are the numbers below
-- the length
pub record ChainComplex : Type 0 where
  pub degrees : List ℕ
  pub boundaries : List (List (ℕ × ℕ))

-- the incidence number of h and g: the coefficient of g in the boundary of the generator h
abbrev pub incidence : List (List (ℕ × ℕ)) → ℕ → ℕ → ℕ
incidence bs h g = nth_chain bs h g

-- the boundary of a chain c, where bs are the boundaries of the generators: at g, the sum over all
-- generators h of c h times the incidence number of h and g
abbrev pub boundary : List (List (ℕ × ℕ)) → (ℕ → ℕ) → ℕ → ℕ
boundary bs c g = total (length bs) (λ h. c h * incidence bs h g)

-- a numbered complex in the words of homology
abbrev pub system : ChainComplex → System ℕ
system K = record {
  on = λ g. nat_lt g (length K.boundaries);
  degree = λ g. slice_index K.degrees g;
  boundary = boundary K.boundaries;
}

-- the chains of a list are a basis of the homology of K in degree k
abbrev pub IsBasisOf : ℕ → ChainComplex → ℕ → List (List (ℕ × ℕ)) → Type 0
IsBasisOf p K k zs = IsBasis p (system K) k (length zs) (nth_chain zs)

-- a chain, as the boundary of the generator h, names g, which is no generator of one degree less
pub record IsMisplaced (degrees : List ℕ) (h : ℕ) (ts : List (ℕ × ℕ)) (g : ℕ) : Type 0 where
  pub named : coefficient ts g ≢ 0
  pub degree : ¬ ((g < length degrees) × (slice_index degrees g + 1 ≡ slice_index degrees h))

-- the boundary of the generator h names g, which is no generator of one degree less
pub record IsBadDegree (degrees : List ℕ) (bs : List (List (ℕ × ℕ))) (h g : ℕ) : Type 0 where
  pub generator : h < length bs
  pub misplaced : IsMisplaced degrees h (slice_index_or bs h []) g

-- the boundary of the boundary of the generator h is not 0 at g
pub record IsNotZero (p : ℕ) (bs : List (List (ℕ × ℕ))) (h g : ℕ) : Type 0 where
  pub generator : h < length bs
  pub nonzero : NonZero p (boundary bs (incidence bs h) g)

-- the first place at which a fact holds
pub record IsFirstAt (F : ℕ → Type 0) (g : ℕ) : Type 0 where
  pub here : F g
  pub before : (k : ℕ) → F k → g ≤ k

-- the first pair at which a fact holds, by h and then by g
pub record IsFirst (F : ℕ → ℕ → Type 0) (h g : ℕ) : Type 0 where
  pub here : F h g
  pub before : (j : ℕ) → j < h → (k : ℕ) → ¬ F j k
  pub beside : (k : ℕ) → F h k → g ≤ k

-- a chain complex modulo p: the boundary of each generator is a chain of one degree less, and the
-- boundary of a boundary is 0
pub record IsComplex (p : ℕ) (K : ChainComplex) : Type 0 where
  pub sizes : length K.degrees ≡ length K.boundaries
  pub short : length K.boundaries < 2 ^ 32
  pub chains : (h : ℕ) → h < length K.boundaries → IsNormal p (slice_index_or K.boundaries h [])
  pub lowers : (h g : ℕ) → IsBadDegree K.degrees K.boundaries h g → ⊥
  pub squares_to_zero : (h g : ℕ) → h < length K.boundaries
      → Same p (boundary K.boundaries (incidence K.boundaries h) g) 0
