-- The items of a set file: their texts, their beginnings, and what a set becomes by them.
use Rattle.std.specs.Prelude.{ℕ, ℤ, pos, negsuc, ◌+ℤ◌, List, [], ◌∷◌, ◌++◌, length, map, max, Bool, true, false, ◌==◌, ◌&&◌, ◌||◌, not, nat_lt, if◌then◌else◌, Option, None, Some}
use Rattle.std.specs.List.{list_all}
use Rattle.std.specs.Ordering.{int_eq}
use Rattle.elem_cubes.specs.Range.{most_factors}
use Rattle.elem_cubes.specs.Corners.{is_file_end}
use Rattle.elem_cubes.specs.Cells.{Factor, point, interval, is_wide, full_cell}
use Rattle.elem_cubes.specs.Order.{cell_cmp}
use Rattle.cube_sets.specs.Sorted.{inserted}
use Rattle.cube_sets.specs.Sets.{Members, dimensions_agree, most_members}
use Rattle.grid_files.specs.declared.fault.Kind.{Kind}
use Rattle.grid_files.specs.declared.fault.Kind.TheVariants.{Any, Full}
use Rattle.grid_files.specs.declared.fault.TextCause.{TextCause}
use Rattle.grid_files.specs.declared.fault.TextCause.TheVariants.{BadByte, BadNumber, MixedDimension, DimensionTooLarge, CoordinateTooLarge, NotElementary, NotFull, TooMany}
use Rattle.grid_files.specs.declared.piece.Piece.{Piece}
use Rattle.grid_files.specs.declared.piece.Piece.TheVariants.{Number, Wide, Mark, SkippedLine, DimensionWord, DimensionNumber}

-- An item: a full cube by its lower corner, an elementary cube by both corners, a dimension line, a
-- skipped line.
pub data Item : Type 0 where
  full : List ℤ → Item
  elementary : List ℤ → List ℤ → Item
  dimension_line : ℤ → Item
  skipped_line : Item

-- A corner `(x1 .. xn)` up to its last number, and whole.
abbrev pub opened : List ℤ → List Piece
opened xs = Mark 40 ∷ map Number xs

abbrev pub closed : List ℤ → List Piece
closed xs = opened xs ++ Mark 41 ∷ []

-- The pieces of an item: `(x1 .. xn)`, `[(l1 .. ln)(u1 .. un)]`, `dimension` and a number, another
-- word.
abbrev pub spelling : Item → List Piece
spelling (full xs) = closed xs
spelling (elementary ls us) = Mark 91 ∷ closed ls ++ closed us ++ Mark 93 ∷ []
spelling (dimension_line z) = DimensionWord ∷ DimensionNumber z ∷ []
spelling skipped_line = SkippedLine ∷ []

-- A number of a full cube's corner, which its upper corner exceeds by one.
abbrev pub is_full_end : ℤ → Bool
is_full_end z = is_file_end z && is_file_end (z +ℤ pos 1)

-- A corner has some number, and each of them is in range.
abbrev pub is_empty : List ℤ → Bool
is_empty [] = true
is_empty (x ∷ xs) = false

abbrev pub fits_corner : (ℤ → Bool) → List ℤ → Bool
fits_corner test xs = not (is_empty xs) && list_all test xs

-- The numbers of an item are of its form.
abbrev pub fits : Item → Bool
fits (full xs) = fits_corner is_full_end xs
fits (elementary ls us) = fits_corner is_file_end ls && fits_corner is_file_end us
fits (dimension_line z) = true
fits skipped_line = true

-- The beginning of an item, up to where the next piece stands: `(..`, `[`, `[(..`, `[(..)`,
-- `[(..)(..`, `[(..)(..)`, `dimension`.
pub data Open : Type 0 where
  nothing : Open
  in_full : List ℤ → Open
  before_lower : Open
  in_lower : List ℤ → Open
  before_upper : List ℤ → Open
  in_upper : List ℤ → List ℤ → Open
  before_end : List ℤ → List ℤ → Open
  behind_word : Open

abbrev pub beginning : Open → List Piece
beginning nothing = []
beginning (in_full xs) = opened xs
beginning before_lower = Mark 91 ∷ []
beginning (in_lower ls) = Mark 91 ∷ opened ls
beginning (before_upper ls) = Mark 91 ∷ closed ls
beginning (in_upper ls us) = Mark 91 ∷ closed ls ++ opened us
beginning (before_end ls us) = Mark 91 ∷ closed ls ++ closed us
beginning behind_word = DimensionWord ∷ []

-- The numbers so far are of its form.
abbrev pub fits_open : Open → Bool
fits_open nothing = true
fits_open (in_full xs) = list_all is_full_end xs
fits_open before_lower = true
fits_open (in_lower ls) = list_all is_file_end ls
fits_open (before_upper ls) = fits_corner is_file_end ls
fits_open (in_upper ls us) = fits_corner is_file_end ls && list_all is_file_end us
fits_open (before_end ls us) = fits_corner is_file_end ls && fits_corner is_file_end us
fits_open behind_word = true

-- Why a piece cannot stand behind some numbers of a corner: a number may, and behind one number the
-- closing mark.
abbrev pub refused_in_corner : (ℤ → Bool) → List ℤ → Piece → Option TextCause
refused_in_corner test xs (Number z) = if test z then None else Some CoordinateTooLarge
refused_in_corner test xs Wide = Some BadNumber
refused_in_corner test xs (Mark b) = if b == 41 && not (is_empty xs) then None else Some BadByte
refused_in_corner test xs p = Some BadByte

-- Why a piece cannot stand where one mark is wanted.
abbrev pub refused_for_mark : ℕ → Piece → Option TextCause
refused_for_mark wanted (Mark b) = if b == wanted then None else Some BadByte
refused_for_mark wanted p = Some BadByte

-- Why a piece cannot stand behind the beginning of an item, if it cannot.
abbrev pub refused : Open → Piece → Option TextCause
refused nothing (Mark b) = if b == 40 || b == 91 then None else Some BadByte
refused nothing SkippedLine = None
refused nothing DimensionWord = None
refused nothing p = Some BadByte
refused (in_full xs) p = refused_in_corner is_full_end xs p
refused before_lower p = refused_for_mark 40 p
refused (in_lower ls) p = refused_in_corner is_file_end ls p
refused (before_upper ls) p = refused_for_mark 40 p
refused (in_upper ls us) p = refused_in_corner is_file_end us p
refused (before_end ls us) p = refused_for_mark 93 p
refused behind_word (DimensionNumber z) = None
refused behind_word p = Some BadNumber

-- The factor between two ends, the cell between two corners, if there is one.
abbrev pub factor_between : ℤ → ℤ → Option Factor
factor_between l u =
    if int_eq l u then Some (point l) else if int_eq (l +ℤ pos 1) u then Some (interval l) else None

abbrev pub in_front : Option Factor → Option (List Factor) → Option (List Factor)
in_front None q = None
in_front (Some f) None = None
in_front (Some f) (Some q) = Some (f ∷ q)

abbrev pub cell_between : List ℤ → List ℤ → Option (List Factor)
cell_between [] [] = Some []
cell_between [] (u ∷ us) = None
cell_between (l ∷ ls) [] = None
cell_between (l ∷ ls) (u ∷ us) = in_front (factor_between l u) (cell_between ls us)

-- Why a cell cannot join a set, in this order: another dimension is known, full cubes alone are
-- wanted, there are too many.
abbrev pub is_wanted : Kind → List Factor → Bool
is_wanted Any q = true
is_wanted Full q = list_all is_wide q

abbrev pub cell_cause : Kind → Members → List Factor → Option TextCause
cell_cause kind set q =
    if not (dimensions_agree set.dimension (length q)) then Some MixedDimension
    else if not (is_wanted kind q) then Some NotFull
    else if nat_lt most_members (length (inserted cell_cmp q set.cells)) then Some TooMany else None

-- Why a cube of corners of at most so many numbers is refused, where these are the corners of this
-- cell, or of none.
abbrev pub cube_cause : Kind → Members → ℕ → Option (List Factor) → Option TextCause
cube_cause kind set numbers None =
    if nat_lt most_factors numbers then Some DimensionTooLarge else Some NotElementary
cube_cause kind set numbers (Some q) =
    if nat_lt most_factors numbers then Some DimensionTooLarge else cell_cause kind set q

-- Why the number of a dimension line is refused.
abbrev pub dimension_cause : Members → ℤ → Option TextCause
dimension_cause set (negsuc n) = Some BadNumber
dimension_cause set (pos n) =
    if n == 0 then Some BadNumber else if nat_lt most_factors n then Some DimensionTooLarge
    else if dimensions_agree set.dimension n then None else Some MixedDimension

-- Why an item is refused behind items that made this set, if it is.
abbrev pub cause_of : Kind → Members → Item → Option TextCause
cause_of kind set (full xs) = cube_cause kind set (length xs) (Some (full_cell xs))
cause_of kind set (elementary ls us) =
    cube_cause kind set (max (length ls) (length us)) (cell_between ls us)
cause_of kind set (dimension_line z) = dimension_cause set z
cause_of kind set skipped_line = None

-- What the set becomes by an item that is not refused.
abbrev pub with_cell : Members → Option (List Factor) → Members
with_cell set None = set
with_cell set (Some q) = record { dimension = length q; cells = inserted cell_cmp q set.cells }

abbrev pub natural : ℤ → ℕ
natural (pos n) = n
natural (negsuc n) = 0

abbrev pub with_item : Members → Item → Members
with_item set (full xs) = with_cell set (Some (full_cell xs))
with_item set (elementary ls us) = with_cell set (cell_between ls us)
with_item set (dimension_line z) = record { dimension = natural z; cells = set.cells }
with_item set skipped_line = set
