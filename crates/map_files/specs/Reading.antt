-- The reading of a map file as a function of its pieces, by which the parts of the reader are told.
use Rattle.std.specs.Prelude.{ℕ, ℤ, List, [], ◌∷◌, ◌++◌, ◌==◌, ◌&&◌, not, if◌then◌else◌, Option, None, Some, Result, Ok, Err}
use Rattle.cube_maps.specs.CubeMaps.{Mapping}
use Rattle.grid_files.specs.Items.{is_empty, is_full_end}
use Rattle.grid_files.specs.declared.fault.TextCause.{TextCause}
use Rattle.grid_files.specs.declared.fault.TextCause.TheVariants.{BadByte, BadNumber, Unclosed, CoordinateTooLarge}
use Rattle.grid_files.specs.declared.piece.Piece.{Piece}
use Rattle.grid_files.specs.declared.piece.Piece.TheVariants.{Number, Wide, Mark, Arrow, SkippedLine, DimensionWord, DimensionNumber}
use Rattle.map_files.specs.Items.{Item, single, listed, dimension_line, skipped_line, Open, nothing, in_left, before_arrow, before_value, in_single, in_list, in_listed, behind_word, cause_of, with_item}
use Rattle.map_files.specs.MapFile.{is_open}

-- what a piece does behind the beginning of an item
pub data Step : Type 0 where
  goes : Open → Step
  closes : Item → Step
  stops : TextCause → Step

abbrev pub in_corner : (List ℤ → Open) → Step → List ℤ → Piece → Step
in_corner more close xs (Number z) =
    if is_full_end z then goes (more (xs ++ z ∷ [])) else stops CoordinateTooLarge
in_corner more close xs Wide = stops BadNumber
in_corner more close xs (Mark b) = if b == 41 && not (is_empty xs) then close else stops BadByte
in_corner more close xs p = stops BadByte

abbrev pub for_arrow : Step → Piece → Step
for_arrow found Arrow = found
for_arrow found p = stops BadByte

abbrev pub for_marks : ℕ → Step → ℕ → Step → Piece → Step
for_marks one first other second (Mark b) =
    if b == one then first else if b == other then second else stops BadByte
for_marks one first other second p = stops BadByte

abbrev pub step : Open → Piece → Step
step nothing (Mark b) = if b == 40 then goes (in_left []) else stops BadByte
step nothing SkippedLine = closes skipped_line
step nothing DimensionWord = goes behind_word
step nothing p = stops BadByte
step (in_left xs) p = in_corner in_left (goes (before_arrow xs)) xs p
step (before_arrow q) p = for_arrow (goes (before_value q)) p
step (before_value q) p = for_marks 40 (goes (in_single q [])) 123 (goes (in_list q [])) p
step (in_single q xs) p = in_corner (in_single q) (closes (single q xs)) xs p
step (in_list q vs) p = for_marks 40 (goes (in_listed q vs [])) 125 (closes (listed q vs)) p
step (in_listed q vs xs) p = in_corner (in_listed q vs) (goes (in_list q (vs ++ xs ∷ []))) xs p
step behind_word (DimensionNumber z) = closes (dimension_line z)
step behind_word p = stops BadNumber

abbrev pub next : {R : Type 0} → Step → (Open → R) → (Item → R) → (TextCause → R) → R
next (goes o) f g h = f o
next (closes i) f g h = g i
next (stops c) f g h = h c

abbrev pub judged : {R : Type 0} → Option TextCause → (TextCause → R) → R → R
judged None f r = r
judged (Some c) f r = f c

-- the first byte of the item that is open behind a piece at a place
abbrev pub start_of : Open → ℕ → ℕ → ℕ
start_of nothing start place = place
start_of (in_left xs) start place = start
start_of (before_arrow q) start place = start
start_of (before_value q) start place = start
start_of (in_single q xs) start place = start
start_of (in_list q vs) start place = start
start_of (in_listed q vs xs) start place = start
start_of behind_word start place = start

-- the place of an item's fault, by its first byte and the place of its last piece
abbrev pub closing_place : Item → ℕ → ℕ → ℕ
closing_place (dimension_line z) start place = place
closing_place (single q v) start place = start
closing_place (listed q vs) start place = start
closing_place skipped_line start place = start

abbrev pub Outcome : Type 0
Outcome = Result Mapping (ℕ × TextCause)

abbrev pub read : Mapping → Open → ℕ → List (ℕ × Piece) → Outcome
read m o start [] = if is_open o then Err (start, Unclosed) else Ok m
read m o start (p ∷ ps) = next (step o p.1)
    (λ o'. read m o' (start_of o start p.0) ps)
    (λ i. judged (cause_of m i) (λ c. Err (closing_place i (start_of o start p.0) p.0, c))
    (read (with_item m i) nothing 0 ps))
    (λ c. Err (p.0, c))
