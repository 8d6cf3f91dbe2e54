-- Corners: the points of the lattice, as the lists of their coordinates.
use Rattle.std.specs.Prelude.{ℤ, pos, negsuc, ◌+ℤ◌, List, length, Bool, ◌&&◌, nat_le, int_le}
use Rattle.std.specs.List.{list_all}
use Rattle.std.specs.Ordering.{int_cmp}
use Rattle.std.specs.Cmp.Lexicographic.{slice_cmp}
use Rattle.std.specs.declared.cmp.Ordering.{Ordering}
use Rattle.elem_cubes.specs.Range.{least_end, greatest_end, most_factors}

-- an end of a factor of some cell: in the range of the files, or one step past it
abbrev pub is_end : ℤ → Bool
is_end z = int_le (least_end +ℤ negsuc 0) z && int_le z (greatest_end +ℤ pos 1)

-- an end of a factor in a file
abbrev pub is_file_end : ℤ → Bool
is_file_end z = int_le least_end z && int_le z greatest_end

-- a point has at least one coordinate, and at most as many as a cell has factors
abbrev pub is_corner : List ℤ → Bool
is_corner xs = nat_le 1 (length xs) && nat_le (length xs) most_factors && list_all is_end xs

-- the order of points: lexicographic
abbrev pub corner_cmp : List ℤ → List ℤ → Ordering
corner_cmp = slice_cmp int_cmp
