-- The first cell of a list of which something holds.
use Rattle.std.specs.Prelude.{◌≡◌, List, Option, Some, None}
use Rattle.std.specs.List.{Contains}
use Rattle.std.specs.declared.cmp.Ordering.TheVariants.{Less}
use Rattle.elem_cubes.specs.Cells.{Factor}
use Rattle.elem_cubes.specs.Order.{cell_cmp}
use Rattle.cube_sets.specs.Sorted.{by_order}

-- q is the first, in the order of cells, of those of the list of which P holds
pub record IsFirstOf (cells : List (List Factor)) (P : List Factor → Type 0)
    (q : List Factor) : Type 0 where
  pub there : Contains cells q
  pub here : P q
  pub before : (r : List Factor) → Contains cells r → P r → cell_cmp r q ≡ Less → ⊥

-- the first of them, or none where P holds of no cell of the list
abbrev pub IsFirst : List (List Factor) → (List Factor → Type 0) → Option (List Factor) → Type 0
IsFirst cells P None = (q : List Factor) → Contains cells q → P q → ⊥
IsFirst cells P (Some q) = IsFirstOf cells P q

-- the lower one of two cells, or the one that there is
abbrev pub lower_one : Option (List Factor) → Option (List Factor) → Option (List Factor)
lower_one None r = r
lower_one (Some q) None = Some q
lower_one (Some q) (Some r) = by_order (cell_cmp q r) (Some q) (Some q) (Some r)
