-- What a log is seen as, and the words of its calls.
use Rattle.std.specs.Prelude.{◌≡◌, ℕ, ◌*◌, ◌<◌, ◌≤◌, List, [], ◌∷◌, ◌++◌, length}
use Rattle.field_mod.specs.Sums.{total}
use Rattle.field_mod.specs.Modular.{Same}
use Rattle.chains.specs.Terms.{coefficient}
use Rattle.chains.specs.ChainComplex.{ChainComplex}
use Rattle.algebraic_reduction.specs.Reduction.{Step, single}
use Rattle.algebraic_reduction.specs.Laws.{left_of, project_of, include_of, homotopy_of}

-- a complex with a list of steps
pub record Reduced : Type 0 where
  pub complex : ChainComplex
  pub steps : List Step

-- the pairs of a list of steps
abbrev pub pairs : List Step → List (ℕ × ℕ)
pairs [] = []
pairs (s ∷ ss) = (s.a, s.b) ∷ pairs ss

-- the new steps are the old ones and one that takes a and b
pub record IsOneMore (old new : List Step) (a b : ℕ) : Type 0 where
  pub inverse : ℕ
  pub steps : new ≡ old ++ (record { a = a; b = b; inverse = inverse }) ∷ []

-- the new steps are the old ones and further ones
pub record AreFurther (old new : List Step) : Type 0 where
  pub more : List Step
  pub steps : new ≡ old ++ more

-- the coefficients of the chain c are the numbers x, modulo p
abbrev pub Gives : ℕ → List (ℕ × ℕ) → (ℕ → ℕ) → Type 0
Gives p c x = (g : ℕ) → Same p (coefficient c g) (x g)

-- what the steps leave of the boundary of b, and the maps of all steps
abbrev pub left_at : ℕ → Reduced → ℕ → ℕ → ℕ
left_at p l b g = left_of p l.complex l.steps b g

abbrev pub projection : ℕ → Reduced → List (ℕ × ℕ) → ℕ → ℕ
projection p l c g = project_of p l.complex l.steps (coefficient c) g

abbrev pub inclusion : ℕ → Reduced → List (ℕ × ℕ) → ℕ → ℕ
inclusion p l c g = include_of p l.complex l.steps (coefficient c) g

abbrev pub homotopy_at : ℕ → Reduced → List (ℕ × ℕ) → ℕ → ℕ
homotopy_at p l c g = homotopy_of p l.complex l.steps (coefficient c) g

-- at each generator c has the product of the chain with the projection of the generator
abbrev pub IsTransposed : ℕ → Reduced → List (ℕ × ℕ) → List (ℕ × ℕ) → Type 0
IsTransposed p l chain c =
    (g : ℕ) → g < length l.complex.boundaries
    → Same p (coefficient c g) (total (length l.complex.boundaries)
    (λ h. coefficient chain h * project_of p l.complex l.steps (single g) h))

-- past the generators c is the chain
abbrev pub IsSamePast : ℕ → Reduced → List (ℕ × ℕ) → List (ℕ × ℕ) → Type 0
IsSamePast p l chain c =
    (g : ℕ) → length l.complex.boundaries ≤ g → Same p (coefficient c g) (coefficient chain g)
