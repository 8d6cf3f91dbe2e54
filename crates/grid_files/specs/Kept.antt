-- The cells of a set file while it is read, some of which may be the same.
use Rattle.std.specs.Prelude.{◌≡◌, ◌⊎◌, ◌≤◌, List, [], length}
use Rattle.std.specs.List.Sorted.{IsStrictlySortedBy}
use Rattle.elem_cubes.specs.Cells.{Factor}
use Rattle.elem_cubes.specs.Order.{cell_cmp}
use Rattle.cube_sets.specs.Sorted.{has}
use Rattle.cube_sets.specs.declared.fault.TheConstants.{CUBES}

-- few cells are listed, and none where some are told apart
pub record AreKept (listed distinct : List (List Factor)) : Type 0 where
  pub few : length listed ≤ CUBES
  pub apart : (listed ≡ []) ⊎ (distinct ≡ [])

-- the distinct ones of the cells that came are these, in order
pub record AreMembers (came cells : List (List Factor)) : Type 0 where
  pub sorted : IsStrictlySortedBy cell_cmp cells
  pub members : (c : List Factor) → has cell_cmp came c ≡ has cell_cmp cells c
