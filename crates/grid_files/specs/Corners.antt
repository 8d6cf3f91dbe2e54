-- What is kept of the corner of a cube that is being read.
use Rattle.std.specs.Prelude.{◌≡◌, ℕ, ◌+◌, ◌≤◌, ℤ, min, List, length, take, Bool, true, false, Option, Some, Result, Ok, Err}
use Rattle.std.specs.List.{list_all}
use Rattle.elem_cubes.specs.Cells.{Factor, is_file_factor}
use Rattle.cube_sets.specs.Sets.{Members}
use Rattle.grid_files.specs.declared.fault.Kind.{Kind}
use Rattle.grid_files.specs.declared.fault.TextCause.{TextCause}
use Rattle.elem_cubes.specs.declared.range.TheConstants.{MAX_EMBEDDING}
use Rattle.elem_cubes.specs.Corners.{is_file_end}
use Rattle.grid_files.specs.Items.{Open, is_full_end, cube_cause}
use Rattle.grid_files.specs.Reading.{Step, goes, stops, in_corner}
use Rattle.grid_files.specs.declared.corner.OpenCorner.{OpenCorner}
use Rattle.grid_files.specs.declared.corner.CornerStep.{CornerStep}
use Rattle.grid_files.specs.declared.corner.CornerStep.TheVariants.{More, Close, Stop}
use Rattle.grid_files.specs.declared.piece.Piece.{Piece}

-- the first of some numbers are kept, and how many there are
pub record IsCorner (corner : OpenCorner) (xs : List ℤ) : Type 0 where
  pub count : corner.count ≡ min (length xs) (MAX_EMBEDDING + 1)
  pub long : length corner.numbers ≡ MAX_EMBEDDING
  pub numbers : take corner.count corner.numbers ≡ take MAX_EMBEDDING xs

-- the numbers that may stand in the corner of a full cube, or of an elementary one
abbrev pub end_test : Bool → ℤ → Bool
end_test true z = is_full_end z
end_test false z = is_file_end z

-- a piece does in a corner what the reading does
abbrev pub LeadsIn : Bool → List ℤ → Piece → CornerStep → Type 0
LeadsIn full xs p (More corner) =
    (ys : List ℤ) × IsCorner corner ys ×
    ((more : List ℤ → Open) (close : Step)
    → in_corner (end_test full) more close xs p ≡ goes (more ys))
LeadsIn full xs p Close =
    (more : List ℤ → Open) (close : Step) → in_corner (end_test full) more close xs p ≡ close
LeadsIn full xs p (Stop cause) =
    (more : List ℤ → Open) (close : Step) → in_corner (end_test full) more close xs p ≡ stops cause

-- the cell of a cube whose corners have at most so many numbers, or why there is none
abbrev pub IsCellOf : ℕ → Option (List Factor) → Result (List Factor) TextCause → Type 0
IsCellOf numbers q (Ok cell) =
    (q ≡ Some cell) × (numbers ≤ MAX_EMBEDDING) × (list_all is_file_factor cell ≡ true)
IsCellOf numbers q (Err cause) =
    (kind : Kind) (set : Members) → cube_cause kind set numbers q ≡ Some cause
