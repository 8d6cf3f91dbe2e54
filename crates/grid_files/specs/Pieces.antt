-- The pieces of a set file: its tokens, where a word takes the rest of its line with it.
use Rattle.std.specs.Prelude.{ℕ, zero, suc, ◌+◌, List, [], ◌∷◌, ◌++◌, length, drop, Bool, ◌==◌, if◌then◌else◌, nat_eq}
use Rattle.std.specs.Cmp.Lexicographic.{pointwise}
use Rattle.std.specs.Char.{is_ascii_alphabetic}
use Rattle.outside.specs.Tokens.{Lexeme, number, wide, arrow, word, mark, other, is_blank, letters_of, line_of, lexeme_at, size_behind, tokens_behind}
use Rattle.grid_files.specs.declared.piece.Piece.{Piece}
use Rattle.grid_files.specs.declared.piece.Piece.TheVariants.{Number, Wide, Mark, Arrow, Strange, SkippedLine, DimensionWord, DimensionNumber, NoNumber, Stray}

-- A token as a piece.
abbrev pub piece_of : Lexeme → Piece
piece_of (number z) = Number z
piece_of wide = Wide
piece_of (mark b) = Mark b
piece_of arrow = Arrow
piece_of (word w) = Strange
piece_of (other b) = Strange

-- The keyword of set files, `dimension`: it begins a dimension line.
abbrev pub keyword : List ℕ
keyword = 100 ∷ 105 ∷ 109 ∷ 101 ∷ 110 ∷ 115 ∷ 105 ∷ 111 ∷ 110 ∷ []

-- The letters are those of that word.
abbrev pub is_dimension : List ℕ → Bool
is_dimension letters = pointwise nat_eq keyword letters

-- What stands on the line behind the number of a dimension line: nothing, or a stray token.
abbrev pub stray_of : List (ℕ × Lexeme) → List (ℕ × Piece)
stray_of [] = []
stray_of (t ∷ ts) = (t.0, Stray) ∷ []

-- The first token behind the word `dimension`, with those that follow it.
abbrev pub numbered : ℕ → Lexeme → List (ℕ × Lexeme) → List (ℕ × Piece)
numbered place (number z) ts = (place, DimensionNumber z) ∷ stray_of ts
numbered place wide ts = (place, NoNumber) ∷ []
numbered place (mark b) ts = (place, NoNumber) ∷ []
numbered place arrow ts = (place, NoNumber) ∷ []
numbered place (word w) ts = (place, NoNumber) ∷ []
numbered place (other b) ts = (place, NoNumber) ∷ []

-- The rest of the line behind the word `dimension`. The number stands at its first byte that is no
-- blank; a comment is no number, nor is the end of the line.
abbrev pub number_line : ℕ → List ℕ → List (ℕ × Piece)
number_line place [] = (place, NoNumber) ∷ []
number_line place (b ∷ bs) = if is_blank b then number_line (place + 1) bs
    else numbered place (lexeme_at b bs) (tokens_behind (size_behind b bs) (place + 1) bs)

-- A word at a place, whose letters are b and then those of bs, with the rest of its line.
abbrev pub word_line : ℕ → ℕ → List ℕ → List (ℕ × Piece)
word_line place b bs = if is_dimension (b ∷ letters_of bs)
    then (place, DimensionWord) ∷ number_line (place + 1 + length (letters_of bs))
    (drop (length (letters_of bs)) (line_of bs))
    else (place, SkippedLine) ∷ []

-- The pieces of a text whose first byte has that place, behind so many bytes that belong to what
-- stands before.
abbrev pub pieces_behind : ℕ → ℕ → List ℕ → List (ℕ × Piece)
pieces_behind skipped place [] = []
pieces_behind (suc skipped) place (b ∷ bs) = pieces_behind skipped (place + 1) bs
pieces_behind zero place (b ∷ bs) = if is_blank b then pieces_behind 0 (place + 1) bs
    else if b == 59 then pieces_behind (length (line_of bs)) (place + 1) bs
    else if is_ascii_alphabetic b then word_line place b bs
    ++ pieces_behind (length (line_of bs)) (place + 1) bs
    else (place, piece_of (lexeme_at b bs)) ∷ pieces_behind (size_behind b bs) (place + 1) bs

-- The pieces of a whole text, with their places.
abbrev pub pieces : List ℕ → List (ℕ × Piece)
pieces text = pieces_behind 0 0 text
