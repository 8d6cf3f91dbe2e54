-- Lists of cells in order: each once, and those that another list has not.
use Rattle.std.specs.Prelude.{◌≡◌, ℕ, ◌<◌, ◌^◌, List, length, true, not, filter}
use Rattle.std.specs.List.{list_all}
use Rattle.std.specs.List.Sorted.{IsStrictlySortedBy}
use Rattle.elem_cubes.specs.Cells.{Factor, is_file_factor}
use Rattle.elem_cubes.specs.Order.{cell_cmp}
use Rattle.elem_cubes.specs.Laws.{cell_at}
use Rattle.cube_sets.specs.Sorted.{has}

-- the cells stand in order, each once, with as many factors as each other and within the range of
-- the files, and there are fewer than 2^32 of them
pub record IsSortedCells (cells : List (List Factor)) : Type 0 where
  pub sorted : IsStrictlySortedBy cell_cmp cells
  pub alike : (i j : ℕ) → i < length cells → j < length cells
      → length (cell_at cells i) ≡ length (cell_at cells j)
  pub in_range : list_all (list_all is_file_factor) cells ≡ true
  pub few : length cells < 2 ^ 32

-- the cells of the first list that the second has not
abbrev pub without : List (List Factor) → List (List Factor) → List (List Factor)
without cells others = filter (λ q. not (has cell_cmp others q)) cells
