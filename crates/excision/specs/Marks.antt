-- Marks beside a list of numbers.
use Rattle.std.specs.Prelude.{◌≡◌, ℕ, List, Bool, true, false, slice_index_or}
use Rattle.excision.specs.Left.{is_one_of}

-- each number that is marked is in the list
pub record AreMarked (marks : List Bool) (numbers : List ℕ) : Type 0 where
  pub each : (n : ℕ) → slice_index_or marks n false ≡ true → is_one_of numbers n ≡ true
