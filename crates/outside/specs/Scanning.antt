-- The tokens of a text read byte by byte, so that a text may come in pieces that cut a token.
use Rattle.std.specs.Prelude.{ℕ, ◌+◌, ◌-◌, ◌*◌, List, [], ◌∷◌, ◌++◌, Bool, true, false, ◌==◌, if◌then◌else◌}
use Rattle.std.specs.Char.{is_ascii_digit, is_ascii_alphabetic}
use Rattle.outside.specs.Tokens.{Lexeme, arrow, word, mark, other, is_blank, is_mark, number_of}

-- What is open between two bytes: nothing, a comment, a `-`, a number, or a word; the last three by
-- the place of their first byte. A number is known by its sign and the value of its digits so far,
-- a word by its letters so far.
pub data Open : Type 0 where
  nothing : Open
  comment : Open
  dash : ℕ → Open
  digits : ℕ → Bool → ℕ → Open
  letters : ℕ → List ℕ → Open

-- The tokens that a byte completes, and what is open behind it.
pub record Step : Type 0 where
  pub tokens : List (ℕ × Lexeme)
  pub open_now : Open

abbrev pub opens : Open → Step
opens s = record { tokens = []; open_now = s }

abbrev pub completes : ℕ → Lexeme → Step → Step
completes place t s = record { tokens = (place, t) ∷ s.tokens; open_now = s.open_now }

-- A byte where nothing is open.
abbrev pub begins : ℕ → ℕ → Step
begins place b = if is_blank b then opens nothing
    else if b == 59 then opens comment
    else if is_ascii_digit b then opens (digits place false (b - 48))
    else if b == 45 then opens (dash place)
    else if is_ascii_alphabetic b then opens (letters place (b ∷ []))
    else if is_mark b then completes place (mark b) (opens nothing)
    else completes place (other b) (opens nothing)

-- The byte at a place, by what is open before it.
abbrev pub step : Open → ℕ → ℕ → Step
step nothing place b = begins place b
step comment place b = if b == 10 then opens nothing else opens comment
step (dash at) place b = if is_ascii_digit b then opens (digits at true (b - 48))
    else if b == 62 then completes at arrow (opens nothing)
    else completes at (other 45) (begins place b)
step (digits at negative n) place b = if is_ascii_digit b
    then opens (digits at negative (10 * n + (b - 48)))
    else completes at (number_of negative n) (begins place b)
step (letters at w) place b = if is_ascii_alphabetic b then opens (letters at (w ++ b ∷ []))
    else completes at (word w) (begins place b)

-- The tokens that the end of the text completes.
abbrev pub ends : Open → List (ℕ × Lexeme)
ends nothing = []
ends comment = []
ends (dash at) = (at, other 45) ∷ []
ends (digits at negative n) = (at, number_of negative n) ∷ []
ends (letters at w) = (at, word w) ∷ []

-- The tokens of what is left of a text, by what is open before it.
abbrev pub scanned : Open → ℕ → List ℕ → List (ℕ × Lexeme)
scanned s place [] = ends s
scanned s place (b ∷ bs) = (step s place b).tokens
    ++ scanned (step s place b).open_now (place + 1) bs
