-- What is kept of the beginning of an item, and what a piece does there.
use Rattle.std.specs.Prelude.{◌≡◌, ℤ, List, [], ◌∷◌, ◌++◌, map, true, false, ◌&&◌}
use Rattle.std.specs.List.{list_any, list_all}
use Rattle.elem_cubes.specs.Cells.{Factor, full_cell, is_file_factor}
use Rattle.grid_files.specs.Corners.{IsCorner}
use Rattle.grid_files.specs.declared.corner.OpenCorner.{OpenCorner}
use Rattle.map_files.specs.Items.{Item, single, listed, dimension_line, skipped_line, Open, nothing, in_left, before_arrow, before_value, in_single, in_list, in_listed, behind_word, is_long, fits_cube}
use Rattle.map_files.specs.Reading.{Step, goes, closes, stops}
use Rattle.map_files.specs.declared.opening.Opening.{Opening}
use Rattle.map_files.specs.declared.opening.Opening.TheVariants.{Nothing, InLeft, BeforeArrow, BeforeValue, InSingle, InList, InListed, BehindWord}
use Rattle.map_files.specs.declared.opening.Closing.{Closing}
use Rattle.map_files.specs.declared.opening.Closing.TheVariants as closing
use Rattle.map_files.specs.declared.opening.Turn.{Turn}
use Rattle.map_files.specs.declared.opening.Turn.TheVariants.{Goes, Adds, Closes, Stops}
use Rattle.map_files.specs.declared.values.Values.{Values}

-- the whole corners of the list that stands open
abbrev pub listed_in : Open → List (List ℤ)
listed_in (in_list q vs) = vs
listed_in (in_listed q vs xs) = vs
listed_in o = []

-- what is kept of a beginning beside these; its counts are those of corners
abbrev pub IsOpening : Opening → Open → Type 0
IsOpening Nothing nothing = Unit {0}
IsOpening (InLeft corner) (in_left xs) = IsCorner corner xs
IsOpening (BeforeArrow left) (before_arrow q) = IsCorner left q
IsOpening (BeforeValue left) (before_value q) = IsCorner left q
IsOpening (InSingle left corner) (in_single q xs) = IsCorner left q × IsCorner corner xs
IsOpening (InList left) (in_list q vs) = IsCorner left q
IsOpening (InListed left corner) (in_listed q vs xs) = IsCorner left q × IsCorner corner xs
IsOpening BehindWord behind_word = Unit {0}
IsOpening opening o = ⊥

-- a whole item, whose list has these corners
abbrev pub IsClosing : List (List ℤ) → Closing → Item → Type 0
IsClosing vs (closing.Single left value) (single q v) =
    IsCorner left q × IsCorner value v × (vs ≡ [])
IsClosing vs (closing.Listed left) (listed q us) = IsCorner left q × (us ≡ vs)
IsClosing vs (closing.Dimension z) (dimension_line y) = z ≡ y
IsClosing vs closing.Skipped skipped_line = Unit {0}
IsClosing vs c i = ⊥

-- a list with one more corner
abbrev pub IsOneMore : List (List ℤ) → OpenCorner → OpenCorner → Open → Type 0
IsOneMore vs left value (in_list q us) =
    IsCorner left q × ((v : List ℤ) × IsCorner value v × (us ≡ vs ++ v ∷ []))
IsOneMore vs left value o = ⊥

-- a turn is the step of the reading
abbrev pub StepsAs : List (List ℤ) → Turn → Step → Type 0
StepsAs vs (Goes opening) (goes o) = IsOpening opening o × (listed_in o ≡ vs)
StepsAs vs (Adds left value) (goes o) = IsOneMore vs left value o
StepsAs vs (Closes c) (closes i) = IsClosing vs c i
StepsAs vs (Stops cause) (stops why) = cause ≡ why
StepsAs vs t s = ⊥

-- what is kept of the corners of a list: whether one is too long, and else their cubes
pub record IsValues (values : Values) (vs : List (List ℤ)) : Type 0 where
  pub long : values.long ≡ list_any is_long vs
  pub cells : values.long ≡ false → values.cells.items ≡ map full_cell vs

-- these are the cubes of corners that are not too long
pub record AreCubes (q : List ℤ) (vs : List (List ℤ)) (cube : List Factor)
    (values : List (List Factor)) : Type 0 where
  pub left : cube ≡ full_cell q
  pub listed : values ≡ map full_cell vs
  pub short : list_any is_long (q ∷ vs) ≡ false
  pub in_range : list_all is_file_factor cube ≡ true
  pub fitting : (fits_cube q && list_all fits_cube vs) ≡ true
