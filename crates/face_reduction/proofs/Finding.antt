-- Faces of no free pair, and what holds of options
use Rattle.std.proofs.Common.{◌≡◌, ℕ, refl, List, Bool, false, Option, Some, None}
use Rattle.std.proofs.lemmas.Bool.{both_ways}
use Rattle.elem_cubes.specs.Cells.{Factor}
use Rattle.std.specs.Prelude.{IfSome, IfNone}
use Rattle.cell_complex.specs.FreePairs.{IsFreePair}

pub no_free_face : (alive : List Factor → Bool) (a : List Factor) → alive a ≡ false → (b : List Factor) → ¬ IsFreePair alive a b
no_free_face alive a e b f = both_ways (alive a) e f.face_alive

-- ---- options

pub if_some_by : (o : Option ℕ) (P : ℕ → Type 0) → ((n : ℕ) → o ≡ Some n → P n) → IfSome o P
if_some_by (Some n) P h = h n refl
if_some_by None P h = tt

pub if_none_by : (o : Option ℕ) (P : Type 0) → (o ≡ None → P) → IfNone o P
if_none_by (Some n) P h = tt
if_none_by None P h = h refl
