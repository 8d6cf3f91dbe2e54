-- The algebraic reduction of a complex by pairs of generators. The generators are the numbers below
-- n, and D h g is the incidence number of h and g: the coefficient of g in the boundary of h.
-- Numbers are compared modulo p. (Kaczynski, Mischaikow, Mrozek: Computational Homology, Springer
-- 2004, section 4.3)
use Rattle.std.specs.Prelude.{◌≢◌, ℕ, ◌+◌, ◌*◌, ◌<◌, if◌then◌else◌, ◌==◌, List, [], ◌∷◌}
use Rattle.field_mod.specs.Sums.{total}
use Rattle.field_mod.specs.Modular.{Same, minus}

-- the boundary of the chain c: at g, the sum over all generators h of c h * D h g
abbrev pub boundary_by : ℕ → (ℕ → ℕ → ℕ) → (ℕ → ℕ) → ℕ → ℕ
boundary_by n D c g = total n (λ h. c h * D h g)

-- the generator g as a chain
abbrev pub single : ℕ → ℕ → ℕ
single g h = if h == g then 1 else 0

-- ---- one step

-- a reduced pair: a, b, and the inverse of the incidence number of b and a
pub record Step : Type 0 where
  pub a : ℕ
  pub b : ℕ
  pub inverse : ℕ

-- s may be made where D is the boundary: a and b are two generators, and their incidence number has
-- that inverse
pub record IsStep (p n : ℕ) (D : ℕ → ℕ → ℕ) (s : Step) : Type 0 where
  pub a_in : s.a < n
  pub b_in : s.b < n
  pub apart : s.a ≢ s.b
  pub inverts : Same p (s.inverse * D s.b s.a) 1

-- the projection: a ↦ a - inverse * boundary of b, and b ↦ 0
abbrev pub project : ℕ → (ℕ → ℕ → ℕ) → Step → (ℕ → ℕ) → ℕ → ℕ
project p D s x g = if g == s.b then 0 else (x g + minus p (s.inverse * x s.a * D s.b g))

-- the inclusion: c ↦ c - inverse * <boundary of c, a> * b
abbrev pub include : ℕ → ℕ → (ℕ → ℕ → ℕ) → Step → (ℕ → ℕ) → ℕ → ℕ
include p n D s y g = if g == s.b then y g + minus p (s.inverse * boundary_by n D y s.a) else y g

-- the homotopy: a ↦ inverse * b, and 0 on all others
abbrev pub homotopy : Step → (ℕ → ℕ) → ℕ → ℕ
homotopy s x g = if g == s.b then s.inverse * x s.a else 0

-- the boundary that the step leaves: D c - inverse * <D c, a> * D b, with nothing at a and b
abbrev pub left : ℕ → (ℕ → ℕ → ℕ) → Step → ℕ → ℕ → ℕ
left p D s c g =
    if g == s.b then 0 else
    (if c == s.b then 0 else
    (if c == s.a then 0 else (D c g + minus p (s.inverse * D c s.a * D s.b g))))

-- ---- a list of steps

-- each step may be made in what the earlier ones leave
abbrev pub AreSteps : ℕ → ℕ → (ℕ → ℕ → ℕ) → List Step → Type 0
AreSteps p n D [] = Unit {0}
AreSteps p n D (s ∷ ss) = IsStep p n D s × AreSteps p n (left p D s) ss

abbrev pub left_all : ℕ → (ℕ → ℕ → ℕ) → List Step → ℕ → ℕ → ℕ
left_all p D [] = D
left_all p D (s ∷ ss) = left_all p (left p D s) ss

abbrev pub project_all : ℕ → (ℕ → ℕ → ℕ) → List Step → (ℕ → ℕ) → ℕ → ℕ
project_all p D [] x = x
project_all p D (s ∷ ss) x = project_all p (left p D s) ss (project p D s x)

abbrev pub include_all : ℕ → ℕ → (ℕ → ℕ → ℕ) → List Step → (ℕ → ℕ) → ℕ → ℕ
include_all p n D [] y = y
include_all p n D (s ∷ ss) y = include p n D s (include_all p n (left p D s) ss y)

-- h of the first step, and then the homotopy of the later ones between its projection and its
-- inclusion
abbrev pub homotopy_all : ℕ → ℕ → (ℕ → ℕ → ℕ) → List Step → (ℕ → ℕ) → ℕ → ℕ
homotopy_all p n D [] x g = 0
homotopy_all p n D (s ∷ ss) x g =
    homotopy s x g + include p n D s (homotopy_all p n (left p D s) ss (project p D s x)) g

-- g is in no step
abbrev pub IsUnpaired : List Step → ℕ → Type 0
IsUnpaired [] g = Unit {0}
IsUnpaired (s ∷ ss) g = (g ≢ s.a) × (g ≢ s.b) × IsUnpaired ss g

-- the chain y has nothing at the pair
pub record IsOff (p : ℕ) (s : Step) (y : ℕ → ℕ) : Type 0 where
  pub at_a : Same p (y s.a) 0
  pub at_b : Same p (y s.b) 0

-- the chain y is one of what is left: it has nothing at any pair
abbrev pub IsOnLeft : ℕ → List Step → (ℕ → ℕ) → Type 0
IsOnLeft p [] y = Unit {0}
IsOnLeft p (s ∷ ss) y = IsOff p s y × IsOnLeft p ss y

-- D is the boundary of a complex: the boundary of a boundary is 0, and it lowers the degree by one
pub record IsBoundary (p n : ℕ) (degree : ℕ → ℕ) (D : ℕ → ℕ → ℕ) : Type 0 where
  pub squares_to_zero : (h g : ℕ) → Same p (boundary_by n D (D h) g) 0
  pub lowers : (h g : ℕ) → degree g + 1 ≢ degree h → Same p (D h g) 0
