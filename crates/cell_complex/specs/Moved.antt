-- Cells that are moved by whole numbers along their axes.
use Rattle.std.specs.Prelude.{ℤ, ◌+ℤ◌, List, [], ◌∷◌}
use Rattle.elem_cubes.specs.Cells.{Factor, point, interval}

-- a factor, moved by v
abbrev pub shift : ℤ → Factor → Factor
shift v (point l) = point (l +ℤ v)
shift v (interval l) = interval (l +ℤ v)

-- a cell, moved by a number along each axis; axes past the end of the numbers stay
abbrev pub moved : List ℤ → List Factor → List Factor
moved [] s = s
moved (v ∷ vs) [] = []
moved (v ∷ vs) (q ∷ qs) = shift v q ∷ moved vs qs
