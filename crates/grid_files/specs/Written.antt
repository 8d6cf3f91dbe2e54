-- The written form of a set: a dimension line, and one member a line, in order.
use Rattle.std.specs.Prelude.{ℕ, pos, List, [], ◌∷◌, ◌++◌, ◌==◌, if◌then◌else◌}
use Rattle.std.specs.List.{flat_map, list_all}
use Rattle.outside.specs.Decimal.{decimal}
use Rattle.elem_cubes.specs.Cells.{Factor, is_wide, lower_of, upper_of}
use Rattle.corner_texts.specs.CornerText.{corner_text}
use Rattle.cube_sets.specs.Sets.{Members}
use Rattle.grid_files.specs.Pieces.{keyword}

-- a full cube by its lower corner, any other cell by both corners
abbrev pub cell_text : List Factor → List ℕ
cell_text q =
    if list_all is_wide q then corner_text (lower_of q) else 91 ∷ corner_text (lower_of q)
    ++ corner_text (upper_of q) ++ 93 ∷ []

abbrev pub cell_line : List Factor → List ℕ
cell_line q = cell_text q ++ 10 ∷ []

-- a set of unknown dimension is written as no bytes
abbrev pub written : Members → List ℕ
written set = if set.dimension == 0 then []
    else keyword ++ 32 ∷ decimal (pos set.dimension) ++ 10 ∷ [] ++ flat_map cell_line set.cells
