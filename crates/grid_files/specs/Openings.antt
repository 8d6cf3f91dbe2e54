-- What is kept of the beginning of an item, and what a piece does there.
use Rattle.std.specs.Prelude.{◌≡◌}
use Rattle.grid_files.specs.Items.{Item, full, elementary, dimension_line, skipped_line, Open, nothing, in_full, before_lower, in_lower, before_upper, in_upper, before_end, behind_word}
use Rattle.grid_files.specs.Reading.{Step, goes, closes, stops}
use Rattle.grid_files.specs.Corners.{IsCorner}
use Rattle.grid_files.specs.declared.opening.Opening.{Opening}
use Rattle.grid_files.specs.declared.opening.Opening.TheVariants.{Nothing, InFull, BeforeLower, InLower, BeforeUpper, InUpper, BeforeEnd, BehindWord}
use Rattle.grid_files.specs.declared.opening.Closing.{Closing}
use Rattle.grid_files.specs.declared.opening.Closing.TheVariants as closing
use Rattle.grid_files.specs.declared.opening.Turn.{Turn}
use Rattle.grid_files.specs.declared.opening.Turn.TheVariants.{Goes, Closes, Stops}

-- what is kept of a beginning; its counts are those of corners
abbrev pub IsOpening : Opening → Open → Type 0
IsOpening Nothing nothing = Unit {0}
IsOpening (InFull corner) (in_full xs) = IsCorner corner xs
IsOpening BeforeLower before_lower = Unit {0}
IsOpening (InLower lower) (in_lower ls) = IsCorner lower ls
IsOpening (BeforeUpper lower) (before_upper ls) = IsCorner lower ls
IsOpening (InUpper lower upper) (in_upper ls us) = IsCorner lower ls × IsCorner upper us
IsOpening (BeforeEnd lower upper) (before_end ls us) = IsCorner lower ls × IsCorner upper us
IsOpening BehindWord behind_word = Unit {0}
IsOpening opening o = ⊥

abbrev pub IsClosing : Closing → Item → Type 0
IsClosing (closing.Full corner) (full xs) = IsCorner corner xs
IsClosing (closing.Elementary lower upper) (elementary ls us) =
    IsCorner lower ls × IsCorner upper us
IsClosing (closing.Dimension z) (dimension_line y) = z ≡ y
IsClosing closing.Skipped skipped_line = Unit {0}
IsClosing c i = ⊥

-- a turn is the step of the reading
abbrev pub StepsAs : Turn → Step → Type 0
StepsAs (Goes opening) (goes o) = IsOpening opening o
StepsAs (Closes c) (closes i) = IsClosing c i
StepsAs (Stops cause) (stops why) = cause ≡ why
StepsAs t s = ⊥
