-- Steps that leave plain restrictions: what they leave of each boundary is the boundary itself,
-- without its terms at the generators that they take. (Kaczynski, Mischaikow, Mrozek: Computational
-- Homology, Springer 2004, sections 2.4 and 4.3)
use Rattle.std.specs.Prelude.{◌≡◌, ◌≢◌, ℕ, ◌*◌, ◌<◌, ◌≤◌, List, [], ◌∷◌, ◌++◌, length, slice_index, Bool, true, false}
use Rattle.field_mod.specs.Modular.{Same}
use Rattle.chains.specs.ChainComplex.{ChainComplex, IsComplex, incidence}
use Rattle.algebraic_reduction.specs.Reduction.{boundary_by, Step, IsUnpaired}
use Rattle.algebraic_reduction.specs.Laws.{AreStepsOf, left_of}

-- the steps leave each boundary as it was, among the generators in no step
abbrev pub LeaveRestrictions : ℕ → ChainComplex → List Step → Type 0
LeaveRestrictions p K ss =
    (h g : ℕ) → IsUnpaired ss h → IsUnpaired ss g
    → Same p (left_of p K ss h g) (incidence K.boundaries h g)

-- the step is by a free pair: of the generators in no step of ss, b alone has a in its boundary
pub record IsFreeStep (p : ℕ) (K : ChainComplex) (ss : List Step) (s : Step) : Type 0 where
  pub a_in : s.a < length K.boundaries
  pub b_in : s.b < length K.boundaries
  pub a_alive : IsUnpaired ss s.a
  pub b_alive : IsUnpaired ss s.b
  pub apart : s.a ≢ s.b
  pub inverts : Same p (s.inverse * incidence K.boundaries s.b s.a) 1
  pub only : (h : ℕ) → IsUnpaired ss h → h ≢ s.b → Same p (incidence K.boundaries h s.a) 0

-- the boundary D of what is in the part is in the part; a test tells the part
abbrev pub IsClosedPart : ℕ → (ℕ → ℕ → ℕ) → (ℕ → Bool) → Type 0
IsClosedPart p D part = (h g : ℕ) → part h ≡ true → part g ≡ false → Same p (D h g) 0

-- both generators of each step are in the part
abbrev pub AreWithin : (ℕ → Bool) → List Step → Type 0
AreWithin part [] = Unit {0}
AreWithin part (s ∷ ss) = (part s.a ≡ true) × (part s.b ≡ true) × AreWithin part ss

-- a chain has nothing outside the part
abbrev pub IsOnPart : ℕ → (ℕ → Bool) → (ℕ → ℕ) → Type 0
IsOnPart p part z = (g : ℕ) → part g ≡ false → Same p (z g) 0

-- each cycle in the part is the boundary of a chain in the part, where D is the boundary on n
-- generators of these degrees
abbrev pub IsAcyclicPart : ℕ → ℕ → (ℕ → ℕ) → (ℕ → ℕ → ℕ) → (ℕ → Bool) → Type 0
IsAcyclicPart p n degree D part =
    (k : ℕ) (z : ℕ → ℕ) → IsOnPart p part z → ((g : ℕ) → degree g ≢ k → Same p (z g) 0)
    → ((g : ℕ) → Same p (boundary_by n D z g) 0)
    → (c : ℕ → ℕ) × IsOnPart p part c × ((g : ℕ) → Same p (z g) (boundary_by n D c g))

-- ---- laws

-- one more step by a free pair may be made, and leaves restrictions as the steps before it
abbrev pub FreeStepsLeaveRestrictions : Type 0
FreeStepsLeaveRestrictions =
    (p : ℕ) (K : ChainComplex) (ss : List Step) (s : Step)
    → AreStepsOf p K ss → LeaveRestrictions p K ss → IsFreeStep p K ss s
    → AreStepsOf p K (ss ++ s ∷ []) × LeaveRestrictions p K (ss ++ s ∷ [])

-- further steps within a closed part, all of which they take, leave restrictions as the steps
-- before them
abbrev pub StepsWithinLeaveRestrictions : Type 0
StepsWithinLeaveRestrictions =
    (p : ℕ) (K : ChainComplex) (ss more : List Step) (part : ℕ → Bool)
    → LeaveRestrictions p K ss → IsClosedPart p (left_of p K ss) part → AreWithin part more
    → ((g : ℕ) → part g ≡ true → ¬ IsUnpaired (ss ++ more) g)
    → LeaveRestrictions p K (ss ++ more)

-- an acyclic closed part of what is left, reduced by pairs of its own until no boundary is left in
-- it, is gone
abbrev pub AcyclicPartsAreTaken : Type 0
AcyclicPartsAreTaken =
    (p : ℕ) (K : ChainComplex) (ss more : List Step) (part : ℕ → Bool)
    → 2 ≤ p → IsComplex p K → AreStepsOf p K (ss ++ more) → IsClosedPart p (left_of p K ss) part
    → AreWithin part more
    → ((g : ℕ) → part g ≡ true → g < length K.boundaries)
    → IsAcyclicPart p (length K.boundaries) (slice_index K.degrees) (left_of p K ss) part
    → ((h g : ℕ) → part h ≡ true → part g ≡ true → Same p (left_of p K (ss ++ more) h g) 0)
    → (g : ℕ) → part g ≡ true → ¬ IsUnpaired (ss ++ more) g
