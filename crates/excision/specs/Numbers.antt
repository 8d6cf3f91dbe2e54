-- The faces of cells by their numbers.
use Rattle.std.specs.Prelude.{ℕ, List, map, Bool, not, ◌&&◌, nat_lt}
use Rattle.elem_cubes.specs.Cells.{Factor}
use Rattle.elem_cubes.specs.Faces.{closure_of}
use Rattle.algebraic_reduction.specs.Reduction.{Step}
use Rattle.cell_complex.specs.Numbering.{number_of}
use Rattle.excision.specs.Left.{is_unpaired}

-- the numbers of all faces of a cell, in the order of its closure; for a face that has none the
-- count of cells stands
unfoldable pub face_numbers : List (List Factor) → List Factor → List ℕ
face_numbers cells q = map (number_of cells) (closure_of q)

-- the number is that of none of so many generators, or of one that is in a step
abbrev pub is_taken : ℕ → List Step → ℕ → Bool
is_taken count ss n = not (nat_lt n count && is_unpaired ss n)
