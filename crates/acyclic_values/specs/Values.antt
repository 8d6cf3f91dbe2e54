-- The values of a map of full cubes at all cells of its domain: its lower semicontinuous extension.
-- (Kaczynski, Mischaikow, Mrozek: Computational Homology, Springer 2004, section 6.2)
use Rattle.std.specs.Prelude.{◌≡◌, ◌↔◌, List, Bool, true, not, ◌||◌}
use Rattle.std.specs.List.{Contains, list_all}
use Rattle.std.specs.List.Sorted.{IsStrictlySortedBy}
use Rattle.elem_cubes.specs.Cells.{Factor}
use Rattle.elem_cubes.specs.Faces.{IsFace, is_face}
use Rattle.elem_cubes.specs.Order.{cell_cmp}
use Rattle.cube_sets.specs.Closures.{is_cell_of}
use Rattle.cube_maps.specs.CubeMaps.{Naming, value_of}

-- g is in the value at the cell s: it is a cell of the value of each cube of the domain that has s
-- as a face
abbrev pub InValue : List Naming → List (List Factor) → List Factor → List Factor → Type 0
InValue map domain s g =
    (q : List Factor) → Contains domain q → IsFace q s → is_cell_of (value_of map q) g ≡ true

-- the list is the value at the cell s, in order
pub record IsValueAt (map : List Naming) (domain : List (List Factor)) (s : List Factor)
    (value : List (List Factor)) : Type 0 where
  pub sorted : IsStrictlySortedBy cell_cmp value
  pub cells : (g : List Factor) → Contains value g ↔ InValue map domain s g

-- the test of being in the value
abbrev pub in_value : List Naming → List (List Factor) → List Factor → List Factor → Bool
in_value map domain s g = list_all (λ q. not (is_face q s) || is_cell_of (value_of map q) g) domain
