-- Cells whose intervals are changed along the axes, one axis after the other.
use Rattle.std.specs.Prelude.{ℕ, zero, suc, ℤ, pos, negsuc, ◌+ℤ◌, List, [], ◌∷◌, slice_set, if◌then◌else◌}
use Rattle.std.specs.List.{flat_map}
use Rattle.elem_cubes.specs.Cells.{Factor, point, interval, low, is_wide}
use Rattle.elem_cubes.specs.Order.{cell_cmp}
use Rattle.elem_cubes.specs.Walks.{factor_at}
use Rattle.cube_sets.specs.Sorted.{union_of}
use Rattle.cube_sets.specs.Sets.{Members}
use Rattle.cube_sets.specs.declared.change.Change.{Change}
use Rattle.cube_sets.specs.declared.change.Change.TheVariants.{LowerEnd, UpperEnd, Down, Up}

-- what the interval with this lower end is changed to
abbrev pub change_of : Change → ℤ → Factor
change_of LowerEnd l = point l
change_of UpperEnd l = point (l +ℤ pos 1)
change_of Down l = interval (l +ℤ negsuc 0)
change_of Up l = interval (l +ℤ pos 1)

-- the cell with its interval along an axis changed
abbrev pub changed_cell : Change → ℕ → List Factor → List Factor
changed_cell change axis q = slice_set q axis (change_of change (low (factor_at q axis)))

-- the same as a list, which is empty for a cell that is no interval along the axis
abbrev pub changed_one : Change → ℕ → List Factor → List (List Factor)
changed_one change axis q =
    if is_wide (factor_at q axis) then changed_cell change axis q ∷ [] else []

-- the cells that are intervals along an axis, each with that interval changed
abbrev pub changed : Change → ℕ → List (List Factor) → List (List Factor)
changed change axis qs = flat_map (changed_one change axis) qs

-- the cells that are intervals along an axis, each with that interval changed in either way
abbrev pub changed_both : Change → Change → ℕ → List (List Factor) → List (List Factor)
changed_both first second axis qs =
    union_of cell_cmp (changed first axis qs) (changed second axis qs)

-- sorted cells, and beside each that is an interval along an axis the two to which it is changed
abbrev pub spread_once : Change → Change → ℕ → List (List Factor) → List (List Factor)
spread_once first second axis qs = union_of cell_cmp qs (changed_both first second axis qs)

-- the same along so many axes, one after the other
abbrev pub spread : Change → Change → ℕ → List (List Factor) → List (List Factor)
spread first second zero qs = qs
spread first second (suc axis) qs = spread_once first second axis (spread first second axis qs)

-- the set of a set's cells, and of those to which they are changed along all axes
abbrev pub spread_set : Change → Change → Members → Members
spread_set first second set =
    record { dimension = set.dimension; cells = spread first second set.dimension set.cells }
