-- What a scanner has still to tell, by what it carries.
use Rattle.std.specs.Prelude.{◌≡◌, ◌≤◌, ℕ, ◌+◌, ℤ, List, [], ◌∷◌, ◌++◌, length, drop, Option, None, Some, nat_eq, if◌then◌else◌}
use Rattle.std.specs.Cmp.Lexicographic.{pointwise}
use Rattle.outside.specs.Tokens.{Lexeme, number, wide, arrow, word, mark, other, letters_of, line_of, digits_of, digits_value, number_of, dashed, dashed_size, tokens_behind}
use Rattle.grid_files.specs.declared.piece.Piece.{Piece}
use Rattle.grid_files.specs.declared.piece.Piece.TheVariants.{SkippedLine, DimensionWord}
use Rattle.grid_files.specs.declared.piece.TheConstants.{DIMENSION}
use Rattle.grid_files.specs.declared.scanner.TheConstants.{CAP}
use Rattle.grid_files.specs.declared.scanner.Carry.{Carry}
use Rattle.grid_files.specs.declared.scanner.Carry.TheVariants.{Between, Line, Dash, Digits, Word, Behind, BehindDash, BehindDigits, AfterNumber}
use Rattle.grid_files.specs.Pieces.{piece_of, pieces_behind, numbered, number_line, stray_of}

-- a piece, if there is one, and those after it
abbrev pub listed : Option (ℕ × Piece) → List (ℕ × Piece) → List (ℕ × Piece)
listed None ps = ps
listed (Some p) ps = p ∷ ps

-- the number of a token
abbrev pub number_in : Lexeme → Option ℤ
number_in (number z) = Some z
number_in wide = None
number_in arrow = None
number_in (word w) = None
number_in (mark b) = None
number_in (other b) = None

-- the pieces behind a line
abbrev pub behind_line : ℕ → List ℕ → List (ℕ × Piece)
behind_line place bs = pieces_behind (length (line_of bs)) place bs

-- the pieces that are left of a text, from this place on
abbrev pub left : Carry → ℕ → List ℕ → List (ℕ × Piece)
left Between place bs = pieces_behind 0 place bs
left Line place bs = behind_line place bs
left (Dash at) place bs = (at, piece_of (dashed bs)) ∷ pieces_behind (dashed_size bs) place bs
left (Digits at negative value) place bs =
    (at, piece_of (number_of negative (digits_value value (digits_of bs)))) ∷ pieces_behind
    (length (digits_of bs)) place bs
left (Word at matched) place bs =
    (if pointwise nat_eq (drop matched DIMENSION) (letters_of bs)
    then (at, DimensionWord) ∷ number_line (place + length (letters_of bs))
    (drop (length (letters_of bs)) (line_of bs))
    else (at, SkippedLine) ∷ []) ++ behind_line place bs
left Behind place bs = number_line place (line_of bs) ++ behind_line place bs
left (BehindDash at) place bs =
    numbered at (dashed (line_of bs)) (tokens_behind (dashed_size (line_of bs)) place (line_of bs))
    ++ behind_line place bs
left (BehindDigits at negative value) place bs =
    numbered at (number_of negative (digits_value value (digits_of (line_of bs))))
    (tokens_behind (length (digits_of (line_of bs))) place (line_of bs))
    ++ behind_line place bs
left AfterNumber place bs = stray_of (tokens_behind 0 place (line_of bs)) ++ behind_line place bs

-- what a scanner keeps: a value that is capped, and no more letters than `dimension` has
abbrev pub IsCarry : Carry → Type 0
IsCarry Between = Unit {0}
IsCarry Line = Unit {0}
IsCarry (Dash at) = Unit {0}
IsCarry (Digits at negative value) = value ≤ CAP
IsCarry (Word at matched) = matched ≤ 9
IsCarry Behind = Unit {0}
IsCarry (BehindDash at) = Unit {0}
IsCarry (BehindDigits at negative value) = value ≤ CAP
IsCarry AfterNumber = Unit {0}

-- a byte tells at most two pieces, and leaves a carry
abbrev pub Scans : Carry → ℕ → ℕ → Carry → Option (ℕ × Piece) → Option (ℕ × Piece) → Type 0
Scans before place b now first second =
    (bs : List ℕ) → left before place (b ∷ bs) ≡ listed first
    (listed second (left now (place + 1) bs))
