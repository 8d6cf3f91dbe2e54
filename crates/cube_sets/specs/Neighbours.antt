-- The neighbourhood of a set of full cubes: all full cubes that share a point with a member.
use Rattle.std.specs.Prelude.{◌≡◌, ℤ, pos, negsuc, ◌+ℤ◌, int_le, int_lt, List, [], ◌∷◌, map, Bool, true, false, ◌&&◌}
use Rattle.std.specs.List.{list_any, list_all, flat_map}
use Rattle.std.specs.List.Sorted.{IsStrictlySortedBy}
use Rattle.elem_cubes.specs.Range.{least_end, greatest_end}
use Rattle.elem_cubes.specs.Cells.{Factor, point, interval, low, high, is_wide, is_file_factor, lower_of}
use Rattle.elem_cubes.specs.Order.{cell_cmp}
use Rattle.cube_sets.specs.Sorted.{has, set_of}
use Rattle.cube_sets.specs.Sets.{Members}

-- two factors have a point in common: neither ends before the other begins
abbrev pub factors_meet : Factor → Factor → Bool
factors_meet f g = int_le (low f) (high g) && int_le (low g) (high f)

-- two cells share a point: their factors do, axis by axis
abbrev pub cells_meet : List Factor → List Factor → Bool
cells_meet [] [] = true
cells_meet [] (g ∷ gs) = false
cells_meet (f ∷ fs) [] = false
cells_meet (f ∷ fs) (g ∷ gs) = factors_meet f g && cells_meet fs gs

-- q is a neighbour of x: a full cube that shares a point with some member
abbrev pub is_neighbour : List (List Factor) → List Factor → Bool
is_neighbour x q = list_all is_wide q && list_any (λ s. cells_meet s q) x

-- the intervals that have a point in common with a factor
abbrev pub near_of : Factor → List Factor
near_of (point l) = interval (l +ℤ negsuc 0) ∷ interval l ∷ []
near_of (interval l) = interval (l +ℤ negsuc 0) ∷ interval l ∷ interval (l +ℤ pos 1) ∷ []

-- the full cubes that share a point with a cell
abbrev pub around : List Factor → List (List Factor)
around [] = [] ∷ []
around (f ∷ fs) = flat_map (λ gs. map (λ g. g ∷ gs) (near_of f)) (around fs)

-- the neighbours of x in order, each once
abbrev pub neighbours_of : List (List Factor) → List (List Factor)
neighbours_of x = set_of cell_cmp (flat_map around x)

-- the set of the neighbours of a set
abbrev pub neighbourhood : Members → Members
neighbourhood set = record { dimension = set.dimension; cells = neighbours_of set.cells }

-- all cells are full; all have each end in the range of the files
abbrev pub are_full : List (List Factor) → Bool
are_full cells = list_all (list_all is_wide) cells

abbrev pub are_in_range : List (List Factor) → Bool
are_in_range cells = list_all (list_all is_file_factor) cells

-- the unit interval with this lower end can be moved either way within the range of the files; so
-- can a full cube along each axis
abbrev pub is_inner_end : ℤ → Bool
is_inner_end z = int_lt least_end z && int_lt (z +ℤ pos 1) greatest_end

abbrev pub is_inner : List Factor → Bool
is_inner q = list_all is_inner_end (lower_of q)

-- the law of neighbours: they stand in order, and are exactly the full cubes that share a point
-- with a member
pub record NeighboursMeet : Type 0 where
  pub sorted : (x : List (List Factor)) → IsStrictlySortedBy cell_cmp (neighbours_of x)
  pub neighbours : (x : List (List Factor)) (q : List Factor)
      → has cell_cmp (neighbours_of x) q ≡ is_neighbour x q
