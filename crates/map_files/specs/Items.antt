-- The items of a map file: their texts, their beginnings, and what a map becomes by them.
use Rattle.std.specs.Prelude.{ℕ, ℤ, List, [], ◌∷◌, ◌++◌, length, map, Bool, true, ◌==◌, ◌&&◌, ◌||◌, nat_lt, if◌then◌else◌, Option, None, Some}
use Rattle.std.specs.List.{list_all, list_any, flat_map}
use Rattle.elem_cubes.specs.Range.{most_factors}
use Rattle.elem_cubes.specs.Cells.{full_cell}
use Rattle.cube_sets.specs.Sets.{Members, dimensions_agree}
use Rattle.cube_maps.specs.CubeMaps.{Mapping, pairs_of, most_pairs}
use Rattle.grid_files.specs.Items.{opened, closed, is_full_end, fits_corner, refused_in_corner, dimension_cause, natural}
use Rattle.grid_files.specs.declared.fault.TextCause.{TextCause}
use Rattle.grid_files.specs.declared.fault.TextCause.TheVariants.{BadByte, BadNumber, MixedDimension, DimensionTooLarge, TooMany}
use Rattle.grid_files.specs.declared.piece.Piece.{Piece}
use Rattle.grid_files.specs.declared.piece.Piece.TheVariants.{Mark, Arrow, SkippedLine, DimensionWord, DimensionNumber}
use Rattle.map_files.specs.Elements.{with_element}

-- An item: an element whose value is one cube, an element whose value is a list of cubes, a
-- dimension line, a skipped line. Cubes are full, and stand for themselves by their lower corners.
pub data Item : Type 0 where
  single : List ℤ → List ℤ → Item
  listed : List ℤ → List (List ℤ) → Item
  dimension_line : ℤ → Item
  skipped_line : Item

-- `(..) ->`, and behind it `{` with whole corners.
abbrev pub leading : List ℤ → List Piece
leading q = closed q ++ Arrow ∷ []

abbrev pub listing : List ℤ → List (List ℤ) → List Piece
listing q vs = leading q ++ Mark 123 ∷ flat_map closed vs

-- The pieces of an item: `(q1 .. qn) -> (r1 .. rn)`, `(q1 .. qn) -> { (r1 .. rn) .. }`, `dimension`
-- and a number, another word.
abbrev pub spelling : Item → List Piece
spelling (single q v) = leading q ++ closed v
spelling (listed q vs) = listing q vs ++ Mark 125 ∷ []
spelling (dimension_line z) = DimensionWord ∷ DimensionNumber z ∷ []
spelling skipped_line = SkippedLine ∷ []

-- The numbers of an item are of its form.
abbrev pub fits_cube : List ℤ → Bool
fits_cube xs = fits_corner is_full_end xs

abbrev pub fits : Item → Bool
fits (single q v) = fits_cube q && fits_cube v
fits (listed q vs) = fits_cube q && list_all fits_cube vs
fits (dimension_line z) = true
fits skipped_line = true

-- The beginning of an item, up to where the next piece stands: `(..`, `(..)`, `(..) ->`, `(..) ->
-- (..`, `(..) -> { (..)`, `(..) -> { (..) (..`, `dimension`.
pub data Open : Type 0 where
  nothing : Open
  in_left : List ℤ → Open
  before_arrow : List ℤ → Open
  before_value : List ℤ → Open
  in_single : List ℤ → List ℤ → Open
  in_list : List ℤ → List (List ℤ) → Open
  in_listed : List ℤ → List (List ℤ) → List ℤ → Open
  behind_word : Open

abbrev pub beginning : Open → List Piece
beginning nothing = []
beginning (in_left xs) = opened xs
beginning (before_arrow q) = closed q
beginning (before_value q) = leading q
beginning (in_single q xs) = leading q ++ opened xs
beginning (in_list q vs) = listing q vs
beginning (in_listed q vs xs) = listing q vs ++ opened xs
beginning behind_word = DimensionWord ∷ []

-- The numbers so far are of its form.
abbrev pub fits_open : Open → Bool
fits_open nothing = true
fits_open (in_left xs) = list_all is_full_end xs
fits_open (before_arrow q) = fits_cube q
fits_open (before_value q) = fits_cube q
fits_open (in_single q xs) = fits_cube q && list_all is_full_end xs
fits_open (in_list q vs) = fits_cube q && list_all fits_cube vs
fits_open (in_listed q vs xs) = (fits_cube q && list_all fits_cube vs) && list_all is_full_end xs
fits_open behind_word = true

-- Why a piece cannot stand where an arrow, or one of two marks, is wanted.
abbrev pub refused_for_arrow : Piece → Option TextCause
refused_for_arrow Arrow = None
refused_for_arrow p = Some BadByte

abbrev pub refused_for_marks : ℕ → ℕ → Piece → Option TextCause
refused_for_marks one other (Mark b) =
    if b == one then None else if b == other then None else Some BadByte
refused_for_marks one other p = Some BadByte

-- Why a piece cannot stand behind the beginning of an item, if it cannot.
abbrev pub refused : Open → Piece → Option TextCause
refused nothing (Mark b) = if b == 40 then None else Some BadByte
refused nothing SkippedLine = None
refused nothing DimensionWord = None
refused nothing p = Some BadByte
refused (in_left xs) p = refused_in_corner is_full_end xs p
refused (before_arrow q) p = refused_for_arrow p
refused (before_value q) p = refused_for_marks 40 123 p
refused (in_single q xs) p = refused_in_corner is_full_end xs p
refused (in_list q vs) p = refused_for_marks 40 125 p
refused (in_listed q vs xs) p = refused_in_corner is_full_end xs p
refused behind_word (DimensionNumber z) = None
refused behind_word p = Some BadNumber

-- Why a map with one more element is none: it has too many named cubes, or too many pairs of a cube
-- and a cube of its value.
abbrev pub has_too_many : Mapping → Bool
has_too_many m = nat_lt most_pairs (length m.named) || nat_lt most_pairs (length (pairs_of m.named))

-- The lengths of an element's corners: one has too many numbers, or one has not the dimension that
-- is known, or not that of the left one.
abbrev pub is_long : List ℤ → Bool
is_long xs = nat_lt most_factors (length xs)

abbrev pub are_alike : Mapping → List ℤ → List (List ℤ) → Bool
are_alike m q vs =
    dimensions_agree m.dimension (length q) && list_all (λ v. length v == length q) vs

abbrev pub count_cause : Mapping → Option TextCause
count_cause m = if has_too_many m then Some TooMany else None

-- Why an element is refused, in this order.
abbrev pub element_cause : Mapping → List ℤ → List (List ℤ) → Option TextCause
element_cause m q vs =
    if list_any is_long (q ∷ vs) then Some DimensionTooLarge
    else if are_alike m q vs then count_cause
    (with_element m (full_cell q) (map full_cell vs)) else Some MixedDimension

-- The dimension that is known, as of a set without cells.
abbrev pub known : Mapping → Members
known m = record { dimension = m.dimension; cells = [] }

-- Why an item is refused behind items that made this map, if it is.
abbrev pub cause_of : Mapping → Item → Option TextCause
cause_of m (single q v) = element_cause m q (v ∷ [])
cause_of m (listed q vs) = element_cause m q vs
cause_of m (dimension_line z) = dimension_cause (known m) z
cause_of m skipped_line = None

-- What the map becomes by an item that is not refused.
abbrev pub with_item : Mapping → Item → Mapping
with_item m (single q v) = with_element m (full_cell q) (full_cell v ∷ [])
with_item m (listed q vs) = with_element m (full_cell q) (map full_cell vs)
with_item m (dimension_line z) = record { dimension = natural z; named = m.named }
with_item m skipped_line = m
