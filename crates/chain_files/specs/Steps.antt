-- What a token does in a chain file, by what is due there.
use Rattle.std.specs.Prelude.{ℕ, ◌+◌, ℤ, pos, List, Bool, true, false, ◌==◌, ◌&&◌, nat_le, nat_lt, if◌then◌else◌, Result, Ok, Err}
use Rattle.std.specs.Str.{bytes_eq}
use Rattle.std.specs.Ordering.{int_eq}
use Rattle.outside.specs.Tokens.{Lexeme, number, wide, word, mark}
use Rattle.chain_files.specs.Known.{Known, residue, with_top, with_degree, with_boundary, with_count, with_term}
use Rattle.chain_files.specs.declared.due.Due.{Due}
use Rattle.chain_files.specs.declared.due.Due.TheVariants.{Chain, Complex, Max, Dimension, Top, Between, Degree, Colon, Count, Generator, Equals, First, Zero, Times, Target, Further, Coefficient}
use Rattle.chain_files.specs.declared.fault.ChainCause.{ChainCause}
use Rattle.chain_files.specs.declared.fault.ChainCause.TheVariants.{BadByte, BadNumber, TooManyTerms}
use Rattle.chain_files.specs.Numbers.{most_terms, chain_word, complex_word, max_word, dimension_word}

-- A token leads on, to what is known and due behind it; or the text is refused at a place.
pub data Step : Type 0 where
  goes : Known → Due → Step
  stops : ℕ → ChainCause → Step

-- Where one word, one mark or a number is wanted.
abbrev pub for_word : List ℕ → Step → ℕ → Lexeme → Step
for_word wanted found at (word w) = if bytes_eq wanted w then found else stops at BadByte
for_word wanted found at t = stops at BadByte

abbrev pub for_mark : ℕ → Step → ℕ → Lexeme → Step
for_mark wanted found at (mark b) = if b == wanted then found else stops at BadByte
for_mark wanted found at t = stops at BadByte

abbrev pub for_number : (ℤ → Step) → ℕ → Lexeme → Step
for_number found at (number z) = found z
for_number found at wide = stops at BadNumber
for_number found at t = stops at BadByte

-- What a number makes, if it is not refused.
abbrev pub judged : ℕ → Due → Result Known ChainCause → Step
judged at due (Ok s) = goes s due
judged at due (Err cause) = stops at cause

-- Between two boundaries: `#` begins one where a degree stands open, `dimension` the next degree.
abbrev pub between : Known → ℕ → Lexeme → Step
between s at (mark b) = if b == 35 && nat_lt 0 s.next then goes s Generator else stops at BadByte
between s at (word w) = if bytes_eq dimension_word w && nat_le s.next s.content.top
    then goes s (Degree s.next) else stops at BadByte
between s at t = stops at BadByte

abbrev pub is_the_mark : ℕ → Lexeme → Bool
is_the_mark wanted (mark b) = b == wanted
is_the_mark wanted t = false

-- Behind the coefficient at a place stands `*`, so that a term counts.
abbrev pub times : Known → ℕ → ℕ → Step
times s place c = if nat_lt s.terms most_terms then goes (with_count s) (Target c)
    else stops place TooManyTerms

abbrev pub step : ℕ → Known → Due → ℕ → Lexeme → Step
step p s Chain at t = for_word chain_word (goes s Complex) at t
step p s Complex at t = for_word complex_word (goes s Max) at t
step p s Max at t = for_word max_word (goes s Dimension) at t
step p s Dimension at t = for_word dimension_word (goes s Top) at t
step p s Top at t = for_number (λ z. judged at Between (with_top s z)) at t
step p s Between at t = between s at t
step p s (Degree k) at t = for_number
    (λ z. if int_eq z (pos k) then goes s (Colon k) else stops at BadNumber) at t
step p s (Colon k) at t = for_mark 58 (goes s (Count k)) at t
step p s (Count k) at t = for_number (λ z. judged at Between (with_degree s k z)) at t
step p s Generator at t = for_number (λ z. judged at Equals (with_boundary s z)) at t
step p s Equals at t = for_mark 61 (goes s First) at t
step p s First at t = for_number (λ z. if int_eq z (pos 0) then goes s (Zero at)
    else goes s (Times at (residue p z))) at t
step p s (Zero place) at t = if is_the_mark 42 t then times s place 0 else between s at t
step p s (Times place c) at t = for_mark 42 (times s place c) at t
step p s (Target c) at t = for_number (λ z. judged at Further (with_term s c z)) at t
step p s Further at t = if is_the_mark 43 t then goes s Coefficient else between s at t
step p s Coefficient at t = for_number (λ z. goes s (Times at (residue p z))) at t

-- The file may end there: its last degree is the greatest, and nothing stands open.
abbrev pub is_between : Due → Bool
is_between Between = true
is_between (Zero place) = true
is_between Further = true
is_between due = false

abbrev pub is_whole : Known → Due → Bool
is_whole s due = is_between due && (s.next == s.content.top + 1)
