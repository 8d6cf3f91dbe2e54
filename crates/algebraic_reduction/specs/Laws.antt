-- What the maps of a list of steps are to the complex: a reduction of it; and what follows where no
-- boundary is left. (Kaczynski, Mischaikow, Mrozek: Computational Homology, Springer 2004, sections
-- 4.3 and 4.4)
use Rattle.std.specs.Prelude.{◌≡◌, ℕ, ◌+◌, ◌*◌, ◌<◌, ◌≤◌, List, [], ◌∷◌, length, slice_index}
use Rattle.field_mod.specs.Modular.{Same, IsField}
use Rattle.chains.specs.Homology.{IsChain, IsBasis}
use Rattle.chains.specs.ChainComplex.{ChainComplex, IsComplex, incidence, boundary, system}
use Rattle.algebraic_reduction.specs.Reduction.{boundary_by, single, Step, AreSteps, left_all, project_all, include_all, homotopy_all, IsUnpaired, IsOnLeft}

-- the steps may be made on the complex, one after the other
abbrev pub AreStepsOf : ℕ → ChainComplex → List Step → Type 0
AreStepsOf p K ss = AreSteps p (length K.boundaries) (incidence K.boundaries) ss

-- the incidence numbers that the steps leave
abbrev pub left_of : ℕ → ChainComplex → List Step → ℕ → ℕ → ℕ
left_of p K ss = left_all p (incidence K.boundaries) ss

-- the boundary that the steps leave
abbrev pub left_boundary_of : ℕ → ChainComplex → List Step → (ℕ → ℕ) → ℕ → ℕ
left_boundary_of p K ss = boundary_by (length K.boundaries) (left_of p K ss)

-- the projection of the list of steps
abbrev pub project_of : ℕ → ChainComplex → List Step → (ℕ → ℕ) → ℕ → ℕ
project_of p K ss = project_all p (incidence K.boundaries) ss

-- the inclusion of the list of steps
abbrev pub include_of : ℕ → ChainComplex → List Step → (ℕ → ℕ) → ℕ → ℕ
include_of p K ss = include_all p (length K.boundaries) (incidence K.boundaries) ss

-- the homotopy of the list of steps
abbrev pub homotopy_of : ℕ → ChainComplex → List Step → (ℕ → ℕ) → ℕ → ℕ
homotopy_of p K ss = homotopy_all p (length K.boundaries) (incidence K.boundaries) ss

-- no generator is in two steps
abbrev pub AreApart : List Step → Type 0
AreApart [] = Unit {0}
AreApart (s ∷ ss) = IsUnpaired ss s.a × IsUnpaired ss s.b × AreApart ss

-- f is linear modulo p
abbrev pub IsLinear : ℕ → ((ℕ → ℕ) → ℕ → ℕ) → Type 0
IsLinear p f =
    (u v : ℕ) (x y : ℕ → ℕ) (g : ℕ) → Same p (f (λ h. u * x h + v * y h) g) (u * f x g + v * f y g)

-- the steps reduce the complex K. What is left is a complex on the generators in no step;
-- projection, inclusion and homotopy are linear, and maps of numbers modulo p; projection and
-- inclusion go from K to what is left and back, keep degrees and commute with the boundaries; the
-- homotopy raises degrees by one; the projection of an inclusion is the chain that was included;
-- and the identity less the inclusion of the projection is the boundary of the homotopy and the
-- homotopy of the boundary
pub record IsReduction (p : ℕ) (K : ChainComplex) (ss : List Step) : Type 0 where
  pub steps : AreStepsOf p K ss
  pub apart : AreApart ss
  pub left_squares_to_zero : (h g : ℕ) → Same p (left_boundary_of p K ss (left_of p K ss h) g) 0
  pub left_lowers : (h : ℕ) (k : ℕ) → h < length K.boundaries → slice_index K.degrees h ≡ k + 1
      → IsChain p (system K) k (left_of p K ss h)
  pub left_bottom : (h : ℕ) → h < length K.boundaries → slice_index K.degrees h ≡ 0 → (g : ℕ)
      → Same p (left_of p K ss h g) 0
  pub left_on_left : (h g : ℕ) → ¬ IsUnpaired ss g
      → Same p (left_of p K ss h g) 0 × Same p (left_of p K ss g h) 0
  pub project_linear : IsLinear p (project_of p K ss)
  pub project_same : (x y : ℕ → ℕ) → ((g : ℕ) → Same p (x g) (y g)) → (g : ℕ)
      → Same p (project_of p K ss x g) (project_of p K ss y g)
  pub project_on_left : (x : ℕ → ℕ) → IsOnLeft p ss (project_of p K ss x)
  pub project_degree : (k : ℕ) (x : ℕ → ℕ) → IsChain p (system K) k x
      → IsChain p (system K) k (project_of p K ss x)
  pub project_boundary : (x : ℕ → ℕ) (g : ℕ)
      → Same p (left_boundary_of p K ss (project_of p K ss x) g)
      (project_of p K ss (boundary K.boundaries x) g)
  pub include_linear : IsLinear p (include_of p K ss)
  pub include_same : (x y : ℕ → ℕ) → ((g : ℕ) → Same p (x g) (y g)) → (g : ℕ)
      → Same p (include_of p K ss x g) (include_of p K ss y g)
  pub include_degree : (k : ℕ) (y : ℕ → ℕ) → IsChain p (system K) k y
      → IsChain p (system K) k (include_of p K ss y)
  pub include_boundary : (y : ℕ → ℕ) → IsOnLeft p ss y → (g : ℕ)
      → Same p (boundary K.boundaries (include_of p K ss y) g)
      (include_of p K ss (left_boundary_of p K ss y) g)
  pub homotopy_linear : IsLinear p (homotopy_of p K ss)
  pub homotopy_same : (x y : ℕ → ℕ) → ((g : ℕ) → Same p (x g) (y g)) → (g : ℕ)
      → Same p (homotopy_of p K ss x g) (homotopy_of p K ss y g)
  pub homotopy_degree : (k : ℕ) (x : ℕ → ℕ) → IsChain p (system K) k x
      → IsChain p (system K) (k + 1) (homotopy_of p K ss x)
  pub round_trip : (y : ℕ → ℕ) → IsOnLeft p ss y → (g : ℕ)
      → Same p (project_of p K ss (include_of p K ss y) g) (y g)
  pub identity : (x : ℕ → ℕ) (g : ℕ) → Same p
      (include_of p K ss (project_of p K ss x) g
      + (boundary K.boundaries (homotopy_of p K ss x) g
      + homotopy_of p K ss (boundary K.boundaries x) g)) (x g)

-- a list of steps on a complex reduces it
abbrev pub StepsAreReductions : Type 0
StepsAreReductions =
    (p : ℕ) (K : ChainComplex) (ss : List Step) → 2 ≤ p → IsComplex p K → AreStepsOf p K ss
    → IsReduction p K ss

-- no boundary is left
abbrev pub NothingLeft : ℕ → ChainComplex → List Step → Type 0
NothingLeft p K ss = (h g : ℕ) → Same p (left_of p K ss h g) 0

-- at 0 .. m - 1 stand the generators of degree k that are in no step, each once
pub record IsLeft (K : ChainComplex) (k : ℕ) (ss : List Step) (m : ℕ) (at : ℕ → ℕ) : Type 0 where
  pub inside : (i : ℕ) → i < m → at i < length K.boundaries
  pub of_degree : (i : ℕ) → i < m → slice_index K.degrees (at i) ≡ k
  pub unpaired : (i : ℕ) → i < m → IsUnpaired ss (at i)
  pub once : (i j : ℕ) → i < m → j < m → at i ≡ at j → i ≡ j
  pub all : (g : ℕ) → g < length K.boundaries → slice_index K.degrees g ≡ k → IsUnpaired ss g
      → (i : ℕ) × (i < m) × (at i ≡ g)

-- where no boundary is left, the inclusions of the generators of degree k that are left are a basis
-- in degree k
abbrev pub LeftGeneratorsAreBasis : Type 0
LeftGeneratorsAreBasis =
    (p k m : ℕ) (K : ChainComplex) (ss : List Step) (at : ℕ → ℕ)
    → 2 ≤ p → IsComplex p K → AreStepsOf p K ss → NothingLeft p K ss → IsLeft K k ss m at
    → IsBasis p (system K) k m (λ i. include_of p K ss (single (at i)))

-- and so their number is the dimension: each basis in degree k has as many chains
abbrev pub LeftGeneratorsAreDimension : Type 0
LeftGeneratorsAreDimension =
    (p k m n : ℕ) (K : ChainComplex) (ss : List Step) (at : ℕ → ℕ) (ws : ℕ → ℕ → ℕ)
    → IsField p → IsComplex p K → AreStepsOf p K ss → NothingLeft p K ss → IsLeft K k ss m at
    → IsBasis p (system K) k n ws → n ≡ m
