-- How the maps of a list of kept steps are computed: a chain that descends along the rows, and
-- values that keep the equations of the rows.
use Rattle.std.specs.Prelude.{◌≡◌, ◌≢◌, ℕ, ◌+◌, ◌*◌, ◌<◌, ◌≤◌, List, [], ◌∷◌, length, take, if◌then◌else◌, ◌==◌, Option, Some, None}
use Rattle.field_mod.specs.Sums.{total}
use Rattle.field_mod.specs.Modular.{Same, minus}
use Rattle.chains.specs.Terms.{coefficient}
use Rattle.algebraic_reduction.specs.Reduction.{Step, project_all}
use Rattle.algebraic_reduction.specs.State.{place_at}
use Rattle.algebraic_reduction.specs.Kept.{KeptStep, steps_of, a_at, inverse_at, row_at}

-- g is no b of a step
abbrev pub IsNoB : List Step → ℕ → Type 0
IsNoB [] g = Unit {0}
IsNoB (s ∷ ss) g = (g ≢ s.b) × IsNoB ss g

-- x after the first i steps of ks
abbrev pub projected : ℕ → (ℕ → ℕ → ℕ) → List KeptStep → (ℕ → ℕ) → ℕ → ℕ → ℕ
projected p D ks x i = project_all p D (steps_of (take i ks)) x

-- what the homotopy of step i gives its b, where the chain is x at the start
abbrev pub weight_at : ℕ → (ℕ → ℕ → ℕ) → List KeptStep → (ℕ → ℕ) → ℕ → ℕ
weight_at p D ks x i = inverse_at ks i * projected p D ks x i (a_at ks i)

-- x is the chain start after the first done steps, but for what stands at their b, and w has for
-- each of them what its homotopy gives its b
pub record Descent (p : ℕ) (D : ℕ → ℕ → ℕ) (ks : List KeptStep) (start x w : ℕ → ℕ)
    (done : ℕ) : Type 0 where
  pub within : done ≤ length ks
  pub near : (g : ℕ) → IsNoB (steps_of (take done ks)) g
      → Same p (x g) (projected p D ks start done g)
  pub weights : (i : ℕ) → i < done → Same p (w i) (weight_at p D ks start i)
  pub ahead : (i : ℕ) → done ≤ i → w i ≡ 0

-- all steps are made: raised has what the homotopies of the single steps give, and left is the end
-- of the descent at the generators in no step
pub record HasDescended (p : ℕ) (D : ℕ → ℕ → ℕ) (places : List (Option ℕ)) (ks : List KeptStep)
    (start : ℕ → ℕ) (left raised : List (ℕ × ℕ)) : Type 0 where
  pub chain : ℕ → ℕ
  pub descent : Descent p D ks start chain (coefficient raised) (length ks)
  pub left_at : (g : ℕ) → place_at places g ≡ None → Same p (coefficient left g) (chain g)
  pub dropped : (g i : ℕ) → place_at places g ≡ Some i → coefficient left g ≡ 0

-- the equations' number, pivots, inverses and coefficients
pub record Equations : Type 0 where
  pub count : ℕ
  pub pivot : ℕ → ℕ
  pub inverse : ℕ → ℕ
  pub at : ℕ → ℕ → ℕ

-- the sum of equation i at y, but for its pivot
abbrev pub rest_at : ℕ → Equations → (ℕ → ℕ) → ℕ → ℕ
rest_at n e y i = total n (λ g. if g == e.pivot i then 0 else e.at i g * y g)

-- y keeps equation i, where y0 are the values at the start
abbrev pub IsSettled : ℕ → ℕ → Equations → (ℕ → ℕ) → (ℕ → ℕ) → ℕ → Type 0
IsSettled p n e y0 y i =
    Same p (y (e.pivot i)) (y0 (e.pivot i) + minus p (e.inverse i * rest_at n e y i))

-- the rows, with the a as pivots
abbrev pub rows : List KeptStep → Equations
rows ks = record { count = length ks; pivot = a_at ks; inverse = inverse_at ks; at = row_at ks }
