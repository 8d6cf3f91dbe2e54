-- Reading byte by byte gives the tokens of the text.
use Rattle.std.proofs.Common.{◌≡◌, ℕ, suc, ◌+◌, ◌-◌, ◌*◌, List, [], ◌∷◌, ◌++◌, length, Bool, true, false, not, ◌==◌, if◌then◌else◌, refl, ap, ◌∙◌, sym, append_assoc, arith}
use Rattle.std.specs.Char.{is_ascii_digit, is_ascii_alphabetic}
use Rattle.outside.specs.Tokens.{Lexeme, arrow, word, mark, other, is_blank, is_mark, number_of, digits_value, digits_of, letters_of, line_of, dashed, dashed_size, lexeme_at, size_behind, tokens_behind, tokens}
use Rattle.outside.specs.Scanning.{Open, nothing, comment, dash, digits, letters, Step, opens, completes, begins, step, ends, scanned}
use Rattle.std.proofs.lemmas.Bool.{eqb-true}
use Rattle.std.proofs.lemmas.List.{append-nil}
use Rattle.outside.proofs.Runs.{take_while-yes, take_while-no}

-- the tokens that are still to come, by what is open before the rest of a text
abbrev pub coming : Open → ℕ → List ℕ → List (ℕ × Lexeme)
coming nothing place bs = tokens_behind 0 place bs
coming comment place bs = tokens_behind (length (line_of bs)) place bs
coming (dash at) place bs = (at, dashed bs) ∷ tokens_behind (dashed_size bs) place bs
coming (digits at negative n) place bs = (at, number_of negative (digits_value n (digits_of bs))) ∷ tokens_behind (length (digits_of bs)) place bs
coming (letters at w) place bs = (at, word (w ++ letters_of bs)) ∷ tokens_behind (length (letters_of bs)) place bs

-- a step leaves the tokens that were to come
abbrev after : Step → ℕ → List ℕ → List (ℕ × Lexeme)
after s place bs = s.tokens ++ coming s.open_now place bs

-- a number by its first digit
first_digit : (at : ℕ) (negative : Bool) (b : ℕ) (k place : ℕ) (bs : List ℕ) → (at, number_of negative (digits_value (b - 48) (digits_of bs))) ∷ tokens_behind k place bs
    ≡ (at, number_of negative (digits_value 0 (b ∷ digits_of bs))) ∷ tokens_behind k place bs
first_digit at negative b k place bs = let e : b - 48 ≡ 10 * 0 + (b - 48) = omega arith in
    ap (λ n. (at, number_of negative (digits_value n (digits_of bs))) ∷ tokens_behind k place bs) e

-- a byte that begins a token
begins_token : (place b : ℕ) (bs : List ℕ) → after (if is_ascii_digit b then opens (digits place false (b - 48))
    else if b == 45 then opens (dash place)
    else if is_ascii_alphabetic b then opens (letters place (b ∷ []))
    else if is_mark b then completes place (mark b) (opens nothing) else completes place (other b) (opens nothing)) (place + 1) bs
    ≡ (place, lexeme_at b bs) ∷ tokens_behind (size_behind b bs) (place + 1) bs
begins_token place b bs = elim (is_ascii_digit b) as (λ t. after (if t then opens (digits place false (b - 48))
    else if b == 45 then opens (dash place)
    else if is_ascii_alphabetic b then opens (letters place (b ∷ []))
    else if is_mark b then completes place (mark b) (opens nothing) else completes place (other b) (opens nothing)) (place + 1) bs
    ≡ (
      place,
      (if t then number_of false (digits_value 0 (b ∷ digits_of bs)) else if b == 45 then dashed bs
          else if is_ascii_alphabetic b then word (b ∷ letters_of bs) else if is_mark b then mark b else other b),
    )
    ∷ tokens_behind (if t then length (digits_of bs) else if b == 45 then dashed_size bs else if is_ascii_alphabetic b then length (letters_of bs) else 0) (place + 1) bs) [
      | true ↦ first_digit place false b (length (digits_of bs)) (place + 1) bs
      | false ↦ elim (b == 45) as (λ t. after (if t then opens (dash place)
          else if is_ascii_alphabetic b then opens (letters place (b ∷ []))
          else if is_mark b then completes place (mark b) (opens nothing) else completes place (other b) (opens nothing)) (place + 1) bs
          ≡ (place, (if t then dashed bs else if is_ascii_alphabetic b then word (b ∷ letters_of bs) else if is_mark b then mark b else other b))
          ∷ tokens_behind (if t then dashed_size bs else if is_ascii_alphabetic b then length (letters_of bs) else 0) (place + 1) bs) [
            | true ↦ refl
            | false ↦ elim (is_ascii_alphabetic b) as (λ t. after (if t then opens (letters place (b ∷ []))
                else if is_mark b then completes place (mark b) (opens nothing) else completes place (other b) (opens nothing)) (place + 1) bs
                ≡ (place, (if t then word (b ∷ letters_of bs) else if is_mark b then mark b else other b))
                ∷ tokens_behind (if t then length (letters_of bs) else 0) (place + 1) bs) [
                  | true ↦ refl
                  | false ↦ elim (is_mark b) as (λ t. after (if t then completes place (mark b) (opens nothing) else completes place (other b) (opens nothing)) (place + 1) bs
                      ≡ (place, (if t then mark b else other b)) ∷ tokens_behind 0 (place + 1) bs)
                      [ true ↦ refl | false ↦ refl ]
                ]
          ]
    ]

begins_comes : (place b : ℕ) (bs : List ℕ) → after (begins place b) (place + 1) bs ≡ tokens_behind 0 place (b ∷ bs)
begins_comes place b bs = elim (is_blank b) as (λ t. after (if t then opens nothing
    else if b == 59 then opens comment
    else if is_ascii_digit b then opens (digits place false (b - 48))
    else if b == 45 then opens (dash place)
    else if is_ascii_alphabetic b then opens (letters place (b ∷ []))
    else if is_mark b then completes place (mark b) (opens nothing) else completes place (other b) (opens nothing)) (place + 1) bs
    ≡ (if t then tokens_behind 0 (place + 1) bs
    else if b == 59 then tokens_behind (length (line_of bs)) (place + 1) bs
    else ((place, lexeme_at b bs) ∷ tokens_behind (size_behind b bs) (place + 1) bs))) [
      | true ↦ refl
      | false ↦ elim (b == 59) as (λ t. after (if t then opens comment
          else if is_ascii_digit b then opens (digits place false (b - 48))
          else if b == 45 then opens (dash place)
          else if is_ascii_alphabetic b then opens (letters place (b ∷ []))
          else if is_mark b then completes place (mark b) (opens nothing) else completes place (other b) (opens nothing)) (place + 1) bs
          ≡ (if t then tokens_behind (length (line_of bs)) (place + 1) bs
          else ((place, lexeme_at b bs) ∷ tokens_behind (size_behind b bs) (place + 1) bs)))
          [ true ↦ refl | false ↦ begins_token place b bs ]
    ]

comment_comes : (place b : ℕ) (bs : List ℕ) (t : Bool) → (b == 10) ≡ t → after (if t then opens nothing else opens comment) (place + 1) bs
    ≡ tokens_behind (length (line_of (b ∷ bs))) place (b ∷ bs)
comment_comes place b bs true h =
    let e : b ≡ 10 = eqb-true b 10 h in
    sym (ap (λ l. tokens_behind (length l) place (b ∷ bs)) (take_while-no (λ b. not (b == 10)) b bs (ap not h)) ∙ ap (λ c. tokens_behind 0 place (c ∷ bs)) e)
comment_comes place b bs false h =
    sym (ap (λ l. tokens_behind (length l) place (b ∷ bs)) (take_while-yes (λ b. not (b == 10)) b bs (ap not h)))

dash_comes : (at place b : ℕ) (bs : List ℕ) → after (step (dash at) place b) (place + 1) bs ≡ coming (dash at) place (b ∷ bs)
dash_comes at place b bs = elim (is_ascii_digit b) as (λ t. after (if t then opens (digits at true (b - 48))
    else if b == 62 then completes at arrow (opens nothing) else completes at (other 45) (begins place b)) (place + 1) bs
    ≡ (at, (if t then number_of true (digits_value 0 (b ∷ digits_of bs)) else if b == 62 then arrow else other 45))
    ∷ tokens_behind (if t then suc (length (digits_of bs)) else if b == 62 then 1 else 0) place (b ∷ bs)) [
      | true ↦ first_digit at true b (length (digits_of bs)) (place + 1) bs
      | false ↦ elim (b == 62) as (λ t. after (if t then completes at arrow (opens nothing) else completes at (other 45) (begins place b)) (place + 1) bs
          ≡ (at, (if t then arrow else other 45)) ∷ tokens_behind (if t then 1 else 0) place (b ∷ bs))
          [ true ↦ refl | false ↦ ap (λ ts. (at, other 45) ∷ ts) (begins_comes place b bs) ]
    ]

digits_come : (at : ℕ) (negative : Bool) (n place b : ℕ) (bs : List ℕ) (t : Bool) → is_ascii_digit b ≡ t
    → after (if t then opens (digits at negative (10 * n + (b - 48))) else completes at (number_of negative n) (begins place b)) (place + 1) bs
    ≡ coming (digits at negative n) place (b ∷ bs)
digits_come at negative n place b bs true h =
    sym (ap (λ l. (at, number_of negative (digits_value n l)) ∷ tokens_behind (length l) place (b ∷ bs)) (take_while-yes is_ascii_digit b bs h))
digits_come at negative n place b bs false h =
    ap (λ ts. (at, number_of negative n) ∷ ts) (begins_comes place b bs)
    ∙ sym (ap (λ l. (at, number_of negative (digits_value n l)) ∷ tokens_behind (length l) place (b ∷ bs)) (take_while-no is_ascii_digit b bs h))

letters_come : (at : ℕ) (w : List ℕ) (place b : ℕ) (bs : List ℕ) (t : Bool) → is_ascii_alphabetic b ≡ t
    → after (if t then opens (letters at (w ++ b ∷ [])) else completes at (word w) (begins place b)) (place + 1) bs
    ≡ coming (letters at w) place (b ∷ bs)
letters_come at w place b bs true h =
    ap (λ l. (at, word l) ∷ tokens_behind (length (letters_of bs)) (place + 1) bs) (append_assoc w (b ∷ []) (letters_of bs))
    ∙ sym (ap (λ l. (at, word (w ++ l)) ∷ tokens_behind (length l) place (b ∷ bs)) (take_while-yes is_ascii_alphabetic b bs h))
letters_come at w place b bs false h =
    ap (λ ts. (at, word w) ∷ ts) (begins_comes place b bs)
    ∙ sym (ap (λ l. (at, word (w ++ l)) ∷ tokens_behind (length l) place (b ∷ bs)) (take_while-no is_ascii_alphabetic b bs h)
    ∙ ap (λ l. (at, word l) ∷ tokens_behind 0 place (b ∷ bs)) (append-nil w))

step_comes : (s : Open) (place b : ℕ) (bs : List ℕ) → after (step s place b) (place + 1) bs ≡ coming s place (b ∷ bs)
step_comes nothing place b bs = begins_comes place b bs
step_comes comment place b bs = comment_comes place b bs (b == 10) refl
step_comes (dash at) place b bs = dash_comes at place b bs
step_comes (digits at negative n) place b bs = digits_come at negative n place b bs (is_ascii_digit b) refl
step_comes (letters at w) place b bs = letters_come at w place b bs (is_ascii_alphabetic b) refl

ends_come : (s : Open) (place : ℕ) → ends s ≡ coming s place []
ends_come nothing place = refl
ends_come comment place = refl
ends_come (dash at) place = refl
ends_come (digits at negative n) place = refl
ends_come (letters at w) place = ap (λ l. (at, word l) ∷ []) (sym (append-nil w))

pub scanned-coming : (s : Open) (place : ℕ) (bs : List ℕ) → scanned s place bs ≡ coming s place bs
scanned-coming s place [] = ends_come s place
scanned-coming s place (b ∷ bs) =
    ap (λ ts. (step s place b).tokens ++ ts) (scanned-coming (step s place b).open_now (place + 1) bs) ∙ step_comes s place b bs

pub tokens_by_byte : (bytes : List ℕ) → tokens bytes ≡ scanned nothing 0 bytes
tokens_by_byte bytes = sym (scanned-coming nothing 0 bytes)
