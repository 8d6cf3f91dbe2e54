-- The union and the intersection of two sets.
use Rattle.std.specs.Prelude.{List, Bool, ◌&&◌, ◌||◌}
use Rattle.elem_cubes.specs.Cells.{Factor}
use Rattle.elem_cubes.specs.Order.{cell_cmp}
use Rattle.cube_sets.specs.Sets.{Members, holds}
use Rattle.cube_sets.specs.Sorted.{union_of, intersection_of}
use Rattle.set_tools.specs.declared.cubunion.Combination.{Combination}
use Rattle.set_tools.specs.declared.cubunion.Combination.TheVariants.{Union, Intersection}

-- the cell is a member of one of the sets, or of both
abbrev pub is_combined : Combination → Members → Members → List Factor → Bool
is_combined Union x y q = holds x q || holds y q
is_combined Intersection x y q = holds x q && holds y q

-- these cells in order, each once
abbrev pub combined_of : Combination → List (List Factor) → List (List Factor) → List (List Factor)
combined_of Union x y = union_of cell_cmp x y
combined_of Intersection x y = intersection_of cell_cmp x y
