-- What a log keeps of its steps.
use Rattle.std.specs.Prelude.{ℕ, List, [], ◌∷◌, slice_index_or}
use Rattle.field_mod.specs.Modular.{Same}
use Rattle.chains.specs.Terms.{coefficient}
use Rattle.algebraic_reduction.specs.Reduction.{Step, left}

-- a step with its row, the boundary of b when it was made
pub record KeptStep : Type 0 where
  pub step : Step
  pub row : List (ℕ × ℕ)

abbrev pub steps_of : List KeptStep → List Step
steps_of [] = []
steps_of (k ∷ ks) = k.step ∷ steps_of ks

-- the row is that of the step where D is the boundary
pub record IsKept (p : ℕ) (D : ℕ → ℕ → ℕ) (k : KeptStep) : Type 0 where
  pub row : (g : ℕ) → Same p (coefficient k.row g) (D k.step.b g)

-- the rows are those of the steps, each in what the earlier ones leave
abbrev pub AreKept : ℕ → (ℕ → ℕ → ℕ) → List KeptStep → Type 0
AreKept p D [] = Unit {0}
AreKept p D (k ∷ ks) = IsKept p D k × AreKept p (left p D k.step) ks

-- what stands past the end of a list of kept steps
abbrev pub no_step : KeptStep
no_step = record { step = record { a = 0; b = 0; inverse = 0 }; row = [] }

abbrev pub nth : List KeptStep → ℕ → KeptStep
nth ks i = slice_index_or ks i no_step

abbrev pub a_at : List KeptStep → ℕ → ℕ
a_at ks i = (nth ks i).step.a

abbrev pub b_at : List KeptStep → ℕ → ℕ
b_at ks i = (nth ks i).step.b

abbrev pub inverse_at : List KeptStep → ℕ → ℕ
inverse_at ks i = (nth ks i).step.inverse

abbrev pub row_at : List KeptStep → ℕ → ℕ → ℕ
row_at ks i g = coefficient (nth ks i).row g
