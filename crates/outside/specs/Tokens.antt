-- The tokens of a text, each with the place of its first byte.
use Rattle.std.specs.Prelude.{ℕ, zero, suc, ◌+◌, ◌-◌, ◌*◌, ◌^◌, ℤ, pos, neg_ℤ, List, [], ◌∷◌, length, take_while, Bool, true, false, ◌||◌, ◌==◌, not, nat_lt, nat_le, if◌then◌else◌}
use Rattle.std.specs.Char.{is_ascii_digit, is_ascii_alphabetic}

-- A token by what it says: a number, a number outside 64 bits, `->`, a word by its letters, a mark,
-- or any other byte.
pub data Lexeme : Type 0 where
  number : ℤ → Lexeme
  wide : Lexeme
  arrow : Lexeme
  word : List ℕ → Lexeme
  mark : ℕ → Lexeme
  other : ℕ → Lexeme

-- Bytes that only separate: space, tab, carriage return, line feed and comma.
abbrev pub is_blank : ℕ → Bool
is_blank b = b == 32 || b == 9 || b == 13 || b == 10 || b == 44

-- The marks are ( ) [ ] { } : # = * and +.
abbrev pub is_mark : ℕ → Bool
is_mark b = b == 40 || b == 41 || b == 91 || b == 93 || b == 123 || b == 125 || b == 58 || b == 35
    || b == 61 || b == 42 || b == 43

-- The digits, the letters, and the rest of the line that stand at the front, each as long as
-- possible.
abbrev pub digits_of : List ℕ → List ℕ
digits_of bs = take_while is_ascii_digit bs

abbrev pub letters_of : List ℕ → List ℕ
letters_of bs = take_while is_ascii_alphabetic bs

abbrev pub line_of : List ℕ → List ℕ
line_of bs = take_while (λ b. not (b == 10)) bs

-- The number that the digits write, after one that stands before them.
abbrev pub digits_value : ℕ → List ℕ → ℕ
digits_value n [] = n
digits_value n (d ∷ ds) = digits_value (10 * n + (d - 48)) ds

-- The token of a number by its sign and its size: wide where it is not from -2^63 to 2^63 - 1.
abbrev pub number_of : Bool → ℕ → Lexeme
number_of true n = if nat_le n (2 ^ 63) then number (neg_ℤ (pos n)) else wide
number_of false n = if nat_lt n (2 ^ 63) then number (pos n) else wide

-- The token that begins with `-`, by what stands behind that.
abbrev pub dashed : List ℕ → Lexeme
dashed [] = other 45
dashed (b ∷ bs) = if is_ascii_digit b then number_of true (digits_value 0 (b ∷ digits_of bs))
    else if b == 62 then arrow else other 45

-- How many bytes of it follow the `-`.
abbrev pub dashed_size : List ℕ → ℕ
dashed_size [] = 0
dashed_size (b ∷ bs) = if is_ascii_digit b then suc (length (digits_of bs)) else if b == 62 then 1
    else 0

-- The token that begins with the byte b, by what follows it; b is no blank and begins no comment.
abbrev pub lexeme_at : ℕ → List ℕ → Lexeme
lexeme_at b bs = if is_ascii_digit b then number_of false (digits_value 0 (b ∷ digits_of bs))
    else if b == 45 then dashed bs
    else if is_ascii_alphabetic b then word (b ∷ letters_of bs)
    else if is_mark b then mark b else other b

-- How many bytes of it follow the first.
abbrev pub size_behind : ℕ → List ℕ → ℕ
size_behind b bs = if is_ascii_digit b then length (digits_of bs)
    else if b == 45 then dashed_size bs
    else if is_ascii_alphabetic b then length (letters_of bs) else 0

-- The tokens of a text whose first byte has that place, behind so many bytes that belong to what
-- stands before.
abbrev pub tokens_behind : ℕ → ℕ → List ℕ → List (ℕ × Lexeme)
tokens_behind skipped place [] = []
tokens_behind (suc skipped) place (b ∷ bs) = tokens_behind skipped (place + 1) bs
tokens_behind zero place (b ∷ bs) = if is_blank b then tokens_behind 0 (place + 1) bs
    else if b == 59 then tokens_behind (length (line_of bs)) (place + 1) bs
    else (place, lexeme_at b bs) ∷ tokens_behind (size_behind b bs) (place + 1) bs

-- The tokens of a whole text, with their places.
abbrev pub tokens : List ℕ → List (ℕ × Lexeme)
tokens bytes = tokens_behind 0 0 bytes
