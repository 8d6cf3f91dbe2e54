-- What a lexer passes over and reads, step by step.
use Rattle.std.proofs.Common.{◌≡◌, ℕ, zero, suc, ◌+◌, ◌-◌, ◌*◌, ◌^◌, ◌<◌, ◌≤◌, min, List, [], ◌∷◌, length, take, drop, get_or, true, false, ◌==◌, not, if◌then◌else◌, refl, ap, ◌∙◌, sym, arith, length-drop, Option, Some, IfNone, subst}
use Rattle.std.proofs.lemmas.List.{take_all, drop-drop}
use Rattle.std.proofs.lemmas.Bool.{ne_eqb}
use Rattle.std.specs.Char.{is_ascii_digit, is_ascii_alphabetic}
use Rattle.outside.specs.Standing.{Standing}
use Rattle.outside.specs.Tokens.{Lexeme, word, mark, other, arrow, is_blank, is_mark, digits_of, letters_of, line_of, digits_value, number_of, dashed, dashed_size, lexeme_at, size_behind, tokens_behind}
use Rattle.outside.specs.Lexing.{tokens_at, listed, token_of, size_of, StandsAt, FollowsBlanks, further, Lexes}
use Rattle.outside.proofs.Runs.{take_while-yes, take_while-no, length-take_while-le}

-- what stands behind the first byte, as a pattern gives it
tail_of : (b : ℕ) (bs : List ℕ) → take (length (b ∷ bs) - 1) (drop 1 (b ∷ bs)) ≡ bs
tail_of b bs = take_all (length (b ∷ bs) - 1) bs (omega arith)

-- the tokens behind so many bytes are those of what follows them
pub tokens_behind-drop : (k place : ℕ) (bs : List ℕ) → tokens_behind k place bs ≡ tokens_behind 0 (place + k) (drop k bs)
tokens_behind-drop zero place bs = let e : place + 0 ≡ place = omega arith in ap (λ n. tokens_behind 0 n bs) (sym e)
tokens_behind-drop (suc k) place [] = refl
tokens_behind-drop (suc k) place (b ∷ bs) = let e : place + 1 + k ≡ place + suc k = omega arith in
    tokens_behind-drop k (place + 1) bs ∙ ap (λ n. tokens_behind 0 n (drop k bs)) e

follows_more : (text rest more : List ℕ) → FollowsBlanks text rest → FollowsBlanks rest more → FollowsBlanks text more
follows_more text rest more p q =
    let ps = p.shorter in
    let qs = q.shorter in
    let e : (place : ℕ) → place + (length text - length rest) + (length rest - length more) ≡ place + (length text - length more) = λ place. omega arith in
    let f : length text - length rest + (length rest - length more) ≡ length text - length more = omega arith in
    record {
      tokens = λ place. p.tokens place ∙ q.tokens (place + (length text - length rest)) ∙ ap (λ n. tokens_behind 0 n more) (e place);
      behind = q.behind ∙ ap (λ r. drop (length rest - length more) r) p.behind ∙ drop-drop (length rest - length more) (length text - length rest) text ∙ ap (λ n. drop n text) f;
      shorter = omega arith;
    }

follows_blank : (b : ℕ) (bs : List ℕ) → is_blank b ≡ true → FollowsBlanks (b ∷ bs) bs
follows_blank b bs blank =
    let e : suc (length bs) - length bs ≡ 1 = omega arith in
    record {
      tokens = λ place. ap (λ t. if t then tokens_behind 0 (place + 1) bs else if b == 59 then tokens_behind (length (line_of bs)) (place + 1) bs else ((place, lexeme_at b bs) ∷ tokens_behind (size_behind b bs) (place + 1) bs)) blank ∙ ap (λ n. tokens_behind 0 (place + n) bs) (sym e);
      behind = ap (λ n. drop n (b ∷ bs)) (sym e);
      shorter = omega arith;
    }

follows_comment : (bs : List ℕ) → FollowsBlanks (59 ∷ bs) (drop (length (line_of bs)) bs)
follows_comment bs =
    let k = length (line_of bs) in
    let within = length-take_while-le (λ b. not (b == 10)) bs in
    let e : suc (length bs) - length (drop (length (line_of bs)) bs) ≡ suc (length (line_of bs)) = omega (arith, length-drop (length (line_of bs)) bs) in
    let f : (place : ℕ) → place + 1 + length (line_of bs) ≡ place + (suc (length bs) - length (drop (length (line_of bs)) bs)) = λ place. omega (arith, e) in
    record {
      tokens = λ place. tokens_behind-drop (length (line_of bs)) (place + 1) bs ∙ ap (λ n. tokens_behind 0 n (drop (length (line_of bs)) bs)) (f place);
      behind = ap (λ n. drop n (59 ∷ bs)) (sym e);
      shorter = omega (arith, e);
    }

pub passes_blank : (text rest after : List ℕ) → FollowsBlanks text rest → 1 ≤ length rest → is_blank (get_or rest 0 0) ≡ true
    → after ≡ take (length rest - 1) (drop 1 rest) → FollowsBlanks text after
passes_blank text [] after follows some blank is = absurd (omega arith)
passes_blank text (b ∷ bs) after follows some blank is =
    follows_more text (b ∷ bs) after follows (subst (λ l. FollowsBlanks (b ∷ bs) l) (sym (is ∙ tail_of b bs)) (follows_blank b bs blank))

pub passes_comment : (text rest after : List ℕ) (n : ℕ) → FollowsBlanks text rest → 1 ≤ length rest → get_or rest 0 0 ≡ 59
    → after ≡ take (length rest - 1) (drop 1 rest) → n ≡ length (line_of after) → FollowsBlanks text (take (length after - n) (drop n after))
passes_comment text [] after n follows some semicolon is line = absurd (omega arith)
passes_comment text (b ∷ bs) after n follows some semicolon is line =
    let e : after ≡ bs = is ∙ tail_of b bs in
    let f : n ≡ length (line_of bs) = line ∙ ap (λ l. length (line_of l)) e in
    let g : FollowsBlanks (b ∷ bs) (drop n after) = subst (λ c. FollowsBlanks (c ∷ bs) (drop n after)) (sym semicolon)
    (subst (λ l. FollowsBlanks (59 ∷ bs) l) (sym (ap (λ m. drop m after) f ∙ ap (λ l. drop (length (line_of bs)) l) e)) (follows_comment bs)) in
    let h : take (length after - n) (drop n after) ≡ drop n after = take_all (length after - n) (drop n after) (omega (arith, length-drop n after)) in
    subst (λ l. FollowsBlanks text l) (sym h) (follows_more text (b ∷ bs) (drop n after) follows g)

-- no digit stands at the front
pub no_digits : (rest : List ℕ) → is_ascii_digit (get_or rest 0 0) ≡ false → digits_of rest ≡ []
no_digits [] h = refl
no_digits (b ∷ bs) h = take_while-no is_ascii_digit b bs h

pub no_digits_left : (rest : List ℕ) → length rest < 1 → digits_of rest ≡ []
no_digits_left [] h = refl
no_digits_left (b ∷ bs) h = absurd (omega arith)

same_capped : (n m : ℕ) (ds : List ℕ) → min n (2 ^ 64 - 1) ≡ min m (2 ^ 64 - 1)
    → min (digits_value n ds) (2 ^ 64 - 1) ≡ min (digits_value m ds) (2 ^ 64 - 1)
same_capped n m [] e = e
same_capped n m (d ∷ ds) e = same_capped (10 * n + (d - 48)) (10 * m + (d - 48)) ds (omega arith)

-- a loop over digits takes one more
pub digit_taken : (value next : ℕ) (rest after : List ℕ) → 1 ≤ length rest → is_ascii_digit (get_or rest 0 0) ≡ true
    → next ≡ min (10 * value + (get_or rest 0 0 - 48)) (2 ^ 64 - 1) → after ≡ take (length rest - 1) (drop 1 rest)
    → (min (digits_value next (digits_of after)) (2 ^ 64 - 1) ≡ min (digits_value value (digits_of rest)) (2 ^ 64 - 1))
    × (drop (length (digits_of after)) after ≡ drop (length (digits_of rest)) rest)
digit_taken value next [] after some digit is cut = absurd (omega arith)
digit_taken value next (b ∷ bs) after some digit is cut =
    let e : after ≡ bs = cut ∙ tail_of b bs in
    let f : digits_of (b ∷ bs) ≡ b ∷ digits_of bs = take_while-yes is_ascii_digit b bs digit in (
      ap (λ l. min (digits_value next (digits_of l)) (2 ^ 64 - 1)) e ∙ same_capped next (10 * value + (b - 48)) (digits_of bs) (omega (arith, is))
          ∙ ap (λ l. min (digits_value value l) (2 ^ 64 - 1)) (sym f),
      ap (λ l. drop (length (digits_of l)) l) e ∙ ap (λ l. drop (length l) (b ∷ bs)) (sym f),
    )

-- the token that begins with a digit
pub token_of-digit : (bytes : List ℕ) → 1 ≤ length bytes → is_ascii_digit (get_or bytes 0 0) ≡ true
    → token_of bytes ≡ Some (number_of false (digits_value 0 (digits_of bytes)))
token_of-digit [] some digit = absurd (omega arith)
token_of-digit (b ∷ bs) some digit =
    ap (λ t. Some (if t then number_of false (digits_value 0 (b ∷ digits_of bs)) else if b == 45 then dashed bs else if is_ascii_alphabetic b then word (b ∷ letters_of bs) else if is_mark b then mark b else other b)) digit
    ∙ ap (λ l. Some (number_of false (digits_value 0 l))) (sym (take_while-yes is_ascii_digit b bs digit))

pub dashed-digit : (bytes : List ℕ) → 1 ≤ length bytes → is_ascii_digit (get_or bytes 0 0) ≡ true
    → dashed bytes ≡ number_of true (digits_value 0 (digits_of bytes))
dashed-digit [] some digit = absurd (omega arith)
dashed-digit (b ∷ bs) some digit =
    ap (λ t. if t then number_of true (digits_value 0 (b ∷ digits_of bs)) else if b == 62 then arrow else other 45) digit
    ∙ ap (λ l. number_of true (digits_value 0 l)) (sym (take_while-yes is_ascii_digit b bs digit))

-- a token is within the text
dashed_size-le : (bs : List ℕ) → dashed_size bs ≤ length bs
dashed_size-le [] = omega arith
dashed_size-le (b ∷ bs) = elim (is_ascii_digit b) as (λ t. (if t then suc (length (digits_of bs)) else if b == 62 then 1 else 0) ≤ suc (length bs)) [
  | true ↦ omega (arith, length-take_while-le is_ascii_digit bs)
  | false ↦ elim (b == 62) as (λ t. (if t then 1 else 0) ≤ suc (length bs)) [ true ↦ omega arith | false ↦ omega arith ]
]

size_behind-le : (b : ℕ) (bs : List ℕ) → size_behind b bs ≤ length bs
size_behind-le b bs = elim (is_ascii_digit b) as (λ t. (if t then length (digits_of bs) else if b == 45 then dashed_size bs else if is_ascii_alphabetic b then length (letters_of bs) else 0) ≤ length bs) [
  | true ↦ length-take_while-le is_ascii_digit bs
  | false ↦ elim (b == 45) as (λ t. (if t then dashed_size bs else if is_ascii_alphabetic b then length (letters_of bs) else 0) ≤ length bs) [
    | true ↦ dashed_size-le bs
    | false ↦ elim (is_ascii_alphabetic b) as (λ t. (if t then length (letters_of bs) else 0) ≤ length bs)
        [ true ↦ length-take_while-le is_ascii_alphabetic bs | false ↦ omega arith ]
  ]
]

-- the tokens of a text that stands at one
tokens_at-token : (place : ℕ) (b : ℕ) (bs : List ℕ) → is_blank b ≡ false → (b == 59) ≡ false
    → tokens_behind 0 place (b ∷ bs) ≡ (place, lexeme_at b bs) ∷ tokens_behind 0 (place + suc (size_behind b bs)) (drop (size_behind b bs) bs)
tokens_at-token place b bs blank comment =
    let e : place + 1 + size_behind b bs ≡ place + suc (size_behind b bs) = omega arith in
    ap (λ t. if t then tokens_behind 0 (place + 1) bs else if b == 59 then tokens_behind (length (line_of bs)) (place + 1) bs else ((place, lexeme_at b bs) ∷ tokens_behind (size_behind b bs) (place + 1) bs)) blank
    ∙ ap (λ t. if t then tokens_behind (length (line_of bs)) (place + 1) bs else ((place, lexeme_at b bs) ∷ tokens_behind (size_behind b bs) (place + 1) bs)) comment
    ∙ ap (λ ts. (place, lexeme_at b bs) ∷ ts) (tokens_behind-drop (size_behind b bs) (place + 1) bs ∙ ap (λ n. tokens_behind 0 n (drop (size_behind b bs) bs)) e)

-- two standings are equal by their parts
standing_at : (s : Standing) (place : ℕ) (rest : List ℕ) → s.place ≡ place → s.rest ≡ rest → s ≡ record { place = place; rest = rest }
standing_at s place rest e f = ap (λ p. record { place = p; rest = s.rest }) e ∙ ap (λ r. record { place = place; rest = r }) f

-- the token at the front and what follows it
size_of-le : (bs : List ℕ) → size_of bs ≤ length bs
size_of-le [] = omega arith
size_of-le (b ∷ bs) = omega (arith, size_behind-le b bs)

tokens_at-front : (place : ℕ) (rest : List ℕ) → StandsAt rest
    → tokens_behind 0 place rest ≡ listed place (token_of rest) (tokens_behind 0 (place + size_of rest) (drop (size_of rest) rest))
tokens_at-front place [] stands = refl
tokens_at-front place (b ∷ bs) stands = tokens_at-token place b bs stands.0 stands.1

end_at : (at all : ℕ) (rest : List ℕ) → at + length rest ≡ all → IfNone (token_of rest) (at ≡ all)
end_at at all [] e = omega (arith, e)
end_at at all (b ∷ bs) e = tt

lexes : (s : Standing) (rest behind : List ℕ) (token : Option Lexeme) → FollowsBlanks s.rest rest → StandsAt rest → token ≡ token_of rest
    → behind ≡ drop (size_of rest) rest
    → Lexes s (s.place + (length s.rest - length rest)) token
    (record { place = s.place + (length s.rest - length rest) + (length rest - length behind); rest = behind })
lexes s rest behind token follows stands is cut =
    let within = size_of-le rest in
    let shorter = follows.shorter in
    let n : length rest - length behind ≡ size_of rest = omega (arith, ap length cut, length-drop (size_of rest) rest) in
    let d : s.place + (length s.rest - length rest) - s.place ≡ length s.rest - length rest = omega arith in
    let r : drop (s.place + (length s.rest - length rest) - s.place) s.rest ≡ rest = ap (λ k. drop k s.rest) d ∙ sym follows.behind in
    let m : s.place + (length s.rest - length rest) - s.place + size_of (drop (s.place + (length s.rest - length rest) - s.place) s.rest)
    ≡ length s.rest - length rest + size_of rest = ap (λ k. s.place + (length s.rest - length rest) - s.place + size_of k) r ∙ ap (λ k. k + size_of rest) d in
    let b : behind ≡ drop (length s.rest - length rest + size_of rest) s.rest =
    cut ∙ ap (λ l. drop (size_of rest) l) follows.behind ∙ drop-drop (size_of rest) (length s.rest - length rest) s.rest in
    let now : Standing = record { place = s.place + (length s.rest - length rest) + (length rest - length behind); rest = behind } in
    let p : now.place ≡ s.place + (length s.rest - length rest + size_of rest) = omega (arith, n) in
    let same : now ≡ further (length s.rest - length rest + size_of rest) s = standing_at now _ _ p b in
    let ts : tokens_at now ≡ tokens_behind 0 (s.place + (length s.rest - length rest) + size_of rest) (drop (size_of rest) rest) =
    ap (λ k. tokens_behind 0 (s.place + (length s.rest - length rest) + k) behind) n
    ∙ ap (λ l. tokens_behind 0 (s.place + (length s.rest - length rest) + size_of rest) l) cut in
    let all : s.place + (length s.rest - length rest) + length rest ≡ s.place + length s.rest = omega arith in
    record {
      tokens = follows.tokens s.place ∙ tokens_at-front (s.place + (length s.rest - length rest)) rest stands
          ∙ ap (λ t. listed (s.place + (length s.rest - length rest)) t (tokens_behind 0 (s.place + (length s.rest - length rest) + size_of rest) (drop (size_of rest) rest))) (sym is)
          ∙ ap (λ ts. listed (s.place + (length s.rest - length rest)) token ts) (sym ts);
      later = omega arith;
      behind = same ∙ ap (λ k. further k s) (sym m);
      end = subst (λ t. IfNone t (s.place + (length s.rest - length rest) ≡ s.place + length s.rest)) (sym is) (end_at _ _ rest all);
    }

pub lexes_from : (s was : Standing) (rest behind : List ℕ) (token : Option Lexeme) → s ≡ was → FollowsBlanks s.rest rest → StandsAt rest
    → token ≡ token_of rest → behind ≡ drop (size_of rest) rest
    → Lexes was (s.place + (length s.rest - length rest)) token
    (record { place = s.place + (length s.rest - length rest) + (length rest - length behind); rest = behind })
lexes_from s was rest behind token same follows stands is cut =
    subst (λ w. Lexes w (s.place + (length s.rest - length rest)) token
    (record { place = s.place + (length s.rest - length rest) + (length rest - length behind); rest = behind })) same
    (lexes s rest behind token follows stands is cut)

-- a token of one byte
pub behind_one : (bytes : List ℕ) → 1 ≤ length bytes → size_of bytes ≡ 1 → take (length bytes - 1) (drop 1 bytes) ≡ drop (size_of bytes) bytes
behind_one [] some one = absurd (omega arith)
behind_one (b ∷ bs) some one = tail_of b bs ∙ sym (ap (λ n. drop n (b ∷ bs)) one)

pub size_of-one : (bytes : List ℕ) → 1 ≤ length bytes → is_ascii_digit (get_or bytes 0 0) ≡ false → (get_or bytes 0 0 ≡ 45 → ⊥)
    → is_ascii_alphabetic (get_or bytes 0 0) ≡ false → size_of bytes ≡ 1
size_of-one [] some digit dash letter = absurd (omega arith)
size_of-one (b ∷ bs) some digit dash letter =
    ap (λ t. suc (if t then length (digits_of bs) else if b == 45 then dashed_size bs else if is_ascii_alphabetic b then length (letters_of bs) else 0)) digit
    ∙ ap (λ t. suc (if t then dashed_size bs else if is_ascii_alphabetic b then length (letters_of bs) else 0)) (ne_eqb b 45 dash)
    ∙ ap (λ t. suc (if t then length (letters_of bs) else 0)) letter

-- what follows a token that begins with `-`
pub behind_dash : (bytes after behind : List ℕ) → 1 ≤ length bytes → get_or bytes 0 0 ≡ 45 → after ≡ take (length bytes - 1) (drop 1 bytes)
    → behind ≡ drop (dashed_size after) after → behind ≡ drop (size_of bytes) bytes
behind_dash [] after behind some dash cut is = absurd (omega arith)
behind_dash (b ∷ bs) after behind some dash cut is =
    is ∙ ap (λ l. drop (dashed_size l) l) (cut ∙ tail_of b bs) ∙ ap (λ c. drop (size_of (c ∷ bs)) (c ∷ bs)) (sym dash)
