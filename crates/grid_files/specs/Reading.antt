-- The reading of a set file as a function of its pieces, by which the parts of the reader are told.
use Rattle.std.specs.Prelude.{ℕ, ℤ, List, [], ◌∷◌, ◌++◌, Bool, ◌==◌, ◌&&◌, not, if◌then◌else◌, Option, None, Some, Result, Ok, Err}
use Rattle.elem_cubes.specs.Corners.{is_file_end}
use Rattle.cube_sets.specs.Sets.{Members}
use Rattle.grid_files.specs.Items.{Item, full, elementary, dimension_line, skipped_line, Open, nothing, in_full, before_lower, in_lower, before_upper, in_upper, before_end, behind_word, is_empty, is_full_end, cause_of, with_item}
use Rattle.grid_files.specs.SetFile.{is_open}
use Rattle.grid_files.specs.declared.fault.Kind.{Kind}
use Rattle.grid_files.specs.declared.fault.TextCause.{TextCause}
use Rattle.grid_files.specs.declared.fault.TextCause.TheVariants.{BadByte, BadNumber, Unclosed, CoordinateTooLarge}
use Rattle.grid_files.specs.declared.piece.Piece.{Piece}
use Rattle.grid_files.specs.declared.piece.Piece.TheVariants.{Number, Wide, Mark, SkippedLine, DimensionWord, DimensionNumber}

-- what a piece does behind the beginning of an item
pub data Step : Type 0 where
  goes : Open → Step
  closes : Item → Step
  stops : TextCause → Step

abbrev pub in_corner : (ℤ → Bool) → (List ℤ → Open) → Step → List ℤ → Piece → Step
in_corner test more close xs (Number z) =
    if test z then goes (more (xs ++ z ∷ [])) else stops CoordinateTooLarge
in_corner test more close xs Wide = stops BadNumber
in_corner test more close xs (Mark b) =
    if b == 41 && not (is_empty xs) then close else stops BadByte
in_corner test more close xs p = stops BadByte

abbrev pub for_mark : ℕ → Step → Piece → Step
for_mark wanted found (Mark b) = if b == wanted then found else stops BadByte
for_mark wanted found p = stops BadByte

abbrev pub step : Open → Piece → Step
step nothing (Mark b) =
    if b == 40 then goes (in_full []) else if b == 91 then goes before_lower else stops BadByte
step nothing SkippedLine = closes skipped_line
step nothing DimensionWord = goes behind_word
step nothing p = stops BadByte
step (in_full xs) p = in_corner is_full_end in_full (closes (full xs)) xs p
step before_lower p = for_mark 40 (goes (in_lower [])) p
step (in_lower ls) p = in_corner is_file_end in_lower (goes (before_upper ls)) ls p
step (before_upper ls) p = for_mark 40 (goes (in_upper ls [])) p
step (in_upper ls us) p = in_corner is_file_end (in_upper ls) (goes (before_end ls us)) us p
step (before_end ls us) p = for_mark 93 (closes (elementary ls us)) p
step behind_word (DimensionNumber z) = closes (dimension_line z)
step behind_word p = stops BadNumber

abbrev pub next : {R : Type 0} → Step → (Open → R) → (Item → R) → (TextCause → R) → R
next (goes o) f g h = f o
next (closes i) f g h = g i
next (stops c) f g h = h c

abbrev pub judged : {R : Type 0} → Option TextCause → (TextCause → R) → R → R
judged None f r = r
judged (Some c) f r = f c

-- the first byte of the item that is open behind a piece at a place
abbrev pub start_of : Open → ℕ → ℕ → ℕ
start_of o start place = if is_open o then start else place

-- the place of an item's fault, by its first byte and the place of its last piece
abbrev pub closing_place : Item → ℕ → ℕ → ℕ
closing_place (dimension_line z) start place = place
closing_place (full xs) start place = start
closing_place (elementary ls us) start place = start
closing_place skipped_line start place = start

abbrev pub Outcome : Type 0
Outcome = Result Members (ℕ × TextCause)

abbrev pub read : Kind → Members → Open → ℕ → List (ℕ × Piece) → Outcome
read kind set o start [] = if is_open o then Err (start, Unclosed) else Ok set
read kind set o start (p ∷ ps) = next (step o p.1)
    (λ o'. read kind set o' (start_of o start p.0) ps)
    (λ i. judged (cause_of kind set i) (λ c. Err (closing_place i (start_of o start p.0) p.0, c))
    (read kind (with_item set i) nothing 0 ps))
    (λ c. Err (p.0, c))
