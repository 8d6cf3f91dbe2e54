-- Squares column by column, as they are made.
use Rattle.std.specs.Prelude.{ℕ, zero, suc, ◌%◌, ◌==◌, ◌&&◌, if◌then◌else◌, List, [], ◌∷◌, ◌++◌}
use Rattle.elem_cubes.specs.Cells.{Factor}
use Rattle.hole_squares.specs.Holes.{square}

-- the square of x and y, where they are not both odd
abbrev pub unless_hole : ℕ → ℕ → List (List Factor)
unless_hole x y = if x % 2 == 1 && y % 2 == 1 then [] else square x y ∷ []

-- those of column x in the first rows
abbrev pub column : ℕ → ℕ → List (List Factor)
column x zero = []
column x (suc y) = column x y ++ unless_hole x y

-- those of the first columns in the first rows
abbrev pub columns : ℕ → ℕ → List (List Factor)
columns rows zero = []
columns rows (suc x) = columns rows x ++ column x rows
