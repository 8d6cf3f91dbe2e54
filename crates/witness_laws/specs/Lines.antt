-- The lines of a witness file as data: each line names a part of the witness, and carries no
-- content of its own. The writer and both passes of the replayer go over such lists.
use Rattle.std.specs.Prelude.{◌≡◌, ℕ, zero, suc, ◌+◌, List, [], ◌∷◌, ◌++◌, map, codes, if◌then◌else◌, ◌==◌, Bool, true, not, ◌&&◌}
use Rattle.std.specs.Int.Digits.{digits_of}
use Rattle.std.specs.List.{flat_map}

-- the pair of x and a, or that of y and b
pub data Side : Type 0 where
  domain : Side
  range : Side

-- a line, by what it speaks of. Degrees and all other numbers count from 0: the i-th cycle of
-- degree k, the i-th relative cell, the i-th cell of the domain, the m-th cell of its value, the
-- r-th row of the matrix of degree k
pub data Line : Type 0 where
  section : Side → Line
  cycle : Side → ℕ → ℕ → Line
  cocycle : Side → ℕ → ℕ → Line
  homotopy : Side → ℕ → Line
  values : Line
  vertex : ℕ → Line
  filling : ℕ → ℕ → Line
  image : ℕ → Line
  matrix : Line
  row : ℕ → ℕ → Line
  end : Line

-- f 0 and f 1 and so on, up to f (n - 1), one behind the other
abbrev pub each : {A : Type 0} → ℕ → (ℕ → List A) → List A
each zero f = []
each (suc n) f = f 0 ++ each n (λ i. f (suc i))

-- ---- texts of lines

-- the decimal digits of a number without leading zeros, however many; for numbers below 10 ^ 64 it
-- is what is printed of them
abbrev pub numeral : ℕ → List ℕ
numeral n = if n == 0 then codes "0" else map (λ d. 48 + d) (digits_of 10 n)

-- a chain: each term behind a space, the coefficient before the number of the cell
abbrev pub chain_text : List (ℕ × ℕ) → List ℕ
chain_text ts = flat_map (λ t. codes " " ++ numeral t.1 ++ codes "*" ++ numeral t.0) ts

-- numbers, each behind a space
abbrev pub numbers_text : List ℕ → List ℕ
numbers_text ns = flat_map (λ n. codes " " ++ numeral n) ns

-- a line of a word, numbers and, behind a colon, further text
abbrev pub chain_line : List ℕ → List ℕ → List (ℕ × ℕ) → List ℕ
chain_line word ns ts = word ++ numbers_text ns ++ codes ":" ++ chain_text ts ++ codes "\n"

abbrev pub numbers_line : List ℕ → List ℕ → List ℕ
numbers_line word ns = word ++ numbers_text ns ++ codes "\n"

-- the line of a row of the matrix of degree k
abbrev pub row_line : ℕ → List ℕ → List ℕ
row_line k es = codes "m" ++ numbers_text (k ∷ []) ++ codes ":" ++ numbers_text es ++ codes "\n"

-- ---- the lines of a text, each with the line feed that ends it; what stands behind the last line
-- feed is a line, too

abbrev pub last_line : List ℕ → List (List ℕ)
last_line [] = []
last_line (b ∷ bs) = (b ∷ bs) ∷ []

-- where so much of the first line stands before
abbrev pub lines_behind : List ℕ → List ℕ → List (List ℕ)
lines_behind [] line = last_line line
lines_behind (c ∷ cs) line =
    if c == 10 then (line ++ c ∷ []) ∷ lines_behind cs [] else lines_behind cs (line ++ c ∷ [])

abbrev pub lines_of : List ℕ → List (List ℕ)
lines_of bytes = lines_behind bytes []

-- no byte is a line feed
abbrev pub no_feed : List ℕ → Bool
no_feed [] = true
no_feed (c ∷ cs) = not (c == 10) && no_feed cs

-- one line, with the line feed that ends it
pub record IsOneLine (t : List ℕ) : Type 0 where
  pub before : List ℕ
  pub none : no_feed before ≡ true
  pub ends : t ≡ before ++ 10 ∷ []
