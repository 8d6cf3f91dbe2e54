-- Where a lexer stands, and what its calls do.
use Rattle.std.specs.Prelude.{◌≡◌, ℕ, suc, ◌+◌, ◌-◌, ◌≤◌, List, [], ◌∷◌, length, drop, Option, None, Some, IfNone, false, ◌==◌}
use Rattle.outside.specs.Tokens.{Lexeme, number, wide, arrow, word, mark, other, tokens_behind, lexeme_at, size_behind, is_blank}
use Rattle.outside.specs.declared.lexer.Token.{Token}
use Rattle.outside.specs.declared.lexer.Token.TheVariants.{Number, Wide, Arrow, Word, Mark, Other, End}
use Rattle.outside.specs.Standing.{Standing}

-- What a token of the program says; nothing at the end.
abbrev pub said : Token → Option Lexeme
said (Number n) = Some (number n)
said Wide = Some wide
said Arrow = Some arrow
said (Word w) = Some (word w.now)
said (Mark b) = Some (mark b)
said (Other b) = Some (other b)
said End = None

-- The tokens from a place in a text on.
abbrev pub tokens_at : Standing → List (ℕ × Lexeme)
tokens_at s = tokens_behind 0 s.place s.rest

-- A token with its place and those after it; the end has none.
abbrev pub listed : ℕ → Option Lexeme → List (ℕ × Lexeme) → List (ℕ × Lexeme)
listed place None ts = []
listed place (Some t) ts = (place, t) ∷ ts

-- How many bytes the token at the front has; none at the end.
abbrev pub size_of : List ℕ → ℕ
size_of [] = 0
size_of (b ∷ bs) = suc (size_behind b bs)

-- The token at the front of a text that begins with no blank and no comment; none at the end.
abbrev pub token_of : List ℕ → Option Lexeme
token_of [] = None
token_of (b ∷ bs) = Some (lexeme_at b bs)

-- The text is at its end, or stands at the first byte of a token.
abbrev pub StandsAt : List ℕ → Type 0
StandsAt [] = Unit {0}
StandsAt (b ∷ bs) = (is_blank b ≡ false) × ((b == 59) ≡ false)

-- The rest of a text follows blanks and comments at its front, so that its tokens are those of the
-- text.
pub record FollowsBlanks (text rest : List ℕ) : Type 0 where
  pub tokens : (place : ℕ) → tokens_behind 0 place text
      ≡ tokens_behind 0 (place + (length text - length rest)) rest
  pub behind : rest ≡ drop (length text - length rest) text
  pub shorter : length rest ≤ length text

-- So many bytes further on.
abbrev pub further : ℕ → Standing → Standing
further n s = record { place = s.place + n; rest = drop n s.rest }

-- A call that reads a token takes it from the front of those that are left, and then stands right
-- behind it. The place of the end is the length of the text.
pub record Lexes (before : Standing) (place : ℕ) (token : Option Lexeme) (now : Standing) : Type 0
  where
    pub tokens : tokens_at before ≡ listed place token (tokens_at now)
    pub later : before.place ≤ place
    pub behind : now ≡ further (place - before.place
        + size_of (drop (place - before.place) before.rest)) before
    pub end : IfNone token (place ≡ before.place + length before.rest)
