-- Cells: elementary cubes, as the lists of their factors (Kaczynski, Mischaikow, Mrozek,
-- Computational Homology, 2004, section 2.1).
use Rattle.std.specs.Prelude.{ℕ, ◌+◌, ◌*◌, ◌^◌, ◌%◌, ◌/◌, ℤ, pos, ◌+ℤ◌, List, [], ◌∷◌, length, map, Bool, true, false, ◌&&◌, ◌==◌, nat_le, nat_lt, int_le, if◌then◌else◌, Option, None, Some}
use Rattle.std.specs.List.{list_all}
use Rattle.std.specs.Ordering.{int_eq}
use Rattle.elem_cubes.specs.Range.{most_factors}
use Rattle.elem_cubes.specs.Corners.{is_end, is_file_end}

-- an elementary interval: the point l, or the unit interval from l to l + 1
pub data Factor : Type 0 where
  point : ℤ → Factor
  interval : ℤ → Factor

-- the factor that begins there
abbrev pub factor_of : Bool → ℤ → Factor
factor_of wide l = if wide then interval l else point l

-- the ends of a factor
abbrev pub low : Factor → ℤ
low (point l) = l
low (interval l) = l

abbrev pub high : Factor → ℤ
high (point l) = l
high (interval l) = l +ℤ pos 1

-- the factor moved by so much
abbrev pub moved : ℤ → Factor → Factor
moved z (point l) = point (l +ℤ z)
moved z (interval l) = interval (l +ℤ z)

-- the factor is an interval, not a point
abbrev pub is_wide : Factor → Bool
is_wide (point l) = false
is_wide (interval l) = true

-- both ends are in the range of cells, and of files
abbrev pub is_factor : Factor → Bool
is_factor f = is_end (low f) && is_end (high f)

abbrev pub is_file_factor : Factor → Bool
is_file_factor f = is_file_end (low f) && is_file_end (high f)

-- both ends lie between two numbers
abbrev pub is_between : ℤ → ℤ → ℤ → Bool
is_between least greatest z = int_le least z && int_le z greatest

abbrev pub is_within : ℤ → ℤ → Factor → Bool
is_within least greatest f = is_between least greatest (low f) && is_between least greatest (high f)

-- what a cell of the program is: a product of some factors, not too many, each in range
abbrev pub is_cell : List Factor → Bool
is_cell q = nat_le 1 (length q) && nat_le (length q) most_factors && list_all is_factor q

-- the lower and the upper corner
abbrev pub lower_of : List Factor → List ℤ
lower_of = map low

abbrev pub upper_of : List Factor → List ℤ
upper_of = map high

-- the axes along which the cell is an interval, the first axis in the lowest bit
abbrev pub axes_of : List Factor → ℕ
axes_of [] = 0
axes_of (point l ∷ qs) = 2 * axes_of qs
axes_of (interval l ∷ qs) = 1 + 2 * axes_of qs

-- the cell with this lower corner, an interval along these axes
abbrev pub cell_of : List ℤ → ℕ → List Factor
cell_of [] axes = []
cell_of (l ∷ ls) axes = (if axes % 2 == 1 then interval l else point l) ∷ cell_of ls (axes / 2)

-- the full cube with this lower corner
abbrev pub full_cell : List ℤ → List Factor
full_cell = map interval

-- the factors as a cell of the program, where they are one; those of a corner and axes, where these
-- are axes of it
abbrev pub checked : List Factor → Option (List Factor)
checked q = if is_cell q then Some q else None

abbrev pub checked_of : List ℤ → ℕ → Option (List Factor)
checked_of ls axes =
    if nat_lt axes (2 ^ length ls) && is_cell (cell_of ls axes) then Some (cell_of ls axes) else
    None

-- the number of intervals
abbrev pub dimension_of : List Factor → ℕ
dimension_of [] = 0
dimension_of (point l ∷ qs) = dimension_of qs
dimension_of (interval l ∷ qs) = dimension_of qs + 1

-- the two are the same
abbrev pub same_factor : Factor → Factor → Bool
same_factor (point l) (point m) = int_eq l m
same_factor (point l) (interval m) = false
same_factor (interval l) (point m) = false
same_factor (interval l) (interval m) = int_eq l m

abbrev pub same_cell : List Factor → List Factor → Bool
same_cell [] [] = true
same_cell [] (r ∷ rs) = false
same_cell (q ∷ qs) [] = false
same_cell (q ∷ qs) (r ∷ rs) = same_factor q r && same_cell qs rs
