-- Lists of chains that stand to each other one to one.
use Rattle.std.specs.Prelude.{◌≡◌, ℕ, ◌<◌, List, [], length, slice_index_or}

-- there are n chains, and the first n of the zs stand to them, one to one, as R says
pub record AreEach (R : List (ℕ × ℕ) → List (ℕ × ℕ) → Type 0) (zs : List (List (ℕ × ℕ))) (n : ℕ)
    (chains : List (List (ℕ × ℕ))) : Type 0 where
  pub count : length chains ≡ n
  pub each : (j : ℕ) → j < n → R (slice_index_or zs j []) (slice_index_or chains j [])
