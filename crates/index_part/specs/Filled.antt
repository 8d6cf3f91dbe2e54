-- Lists that are filled place by place.
use Rattle.std.specs.Prelude.{◌≡◌, ℕ, ◌<◌, List, length, slice_index_or}

-- the list has n elements, each of which is as its place asks
pub record IsFilled {A : Type 0} (none : A) (IsAt : ℕ → A → Type 0) (n : ℕ)
    (xs : List A) : Type 0 where
  pub count : length xs ≡ n
  pub each : (i : ℕ) → i < n → IsAt i (slice_index_or xs i none)
