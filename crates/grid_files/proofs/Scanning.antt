-- What one byte does to what a scanner has still to tell.
use Rattle.std.proofs.Common.{◌≡◌, ℕ, ℤ, ◌+◌, ◌-◌, ◌*◌, ◌<◌, ◌≤◌, suc, zero, min, List, [], ◌∷◌, ◌++◌, length, drop, get_or, Bool, true, false, ◌==◌, ◌&&◌, not, cond, if◌then◌else◌, nat_eq, nat_lt, nat_le, None, Some, refl, sym, ap, ◌∙◌, arith, take_while, take, ◌⊎◌, ⊎_elim, ◌^◌, pos, neg_ℤ}
use Rattle.std.specs.Cmp.Lexicographic.{pointwise}
use Rattle.std.specs.List.{prefix_len}
use Rattle.std.specs.Char.{is_ascii_digit, is_ascii_alphabetic}
use Rattle.std.proofs.lemmas.List.{drop_more, drop_all}
use Rattle.std.proofs.lemmas.Bool.{cases_Bool}
use Rattle.std.proofs.lemmas.Bool.Decides.{nat_tests}
use Rattle.outside.specs.Tokens.{Lexeme, number, wide, arrow, word, mark, other, is_mark, is_blank, letters_of, line_of, digits_of, digits_value, number_of, tokens_behind}
use Rattle.grid_files.specs.declared.piece.Piece.{Piece}
use Rattle.grid_files.specs.declared.piece.Piece.TheVariants.{SkippedLine, DimensionWord, DimensionNumber, NoNumber, Stray}
use Rattle.grid_files.specs.declared.piece.TheConstants.{DIMENSION}
use Rattle.grid_files.specs.declared.scanner.TheConstants.{CAP}
use Rattle.grid_files.specs.declared.scanner.Carry.{Carry}
use Rattle.grid_files.specs.declared.scanner.Carry.TheVariants.{Between, Line, Dash, Digits, Word, Behind, BehindDash, BehindDigits, AfterNumber}
use Rattle.grid_files.specs.Pieces.{piece_of, pieces_behind, numbered, number_line, stray_of}
use Rattle.grid_files.specs.Scanning.{left, behind_line, number_in}

pub letter_no_line : (b : ℕ) → is_ascii_alphabetic b ≡ true → (b == 10) ≡ false
letter_no_line b h = grind (arith, nat_tests)

-- one more of what stands at the front, or none
pub while_more : (p : ℕ → Bool) (b : ℕ) (bs : List ℕ) → p b ≡ true → take_while p (b ∷ bs) ≡ b ∷ take_while p bs
while_more p b bs h =
    let n : 1 + prefix_len p bs ≡ suc (prefix_len p bs) = omega arith in
    ap (λ t. take (cond t (1 + prefix_len p bs) 0) (b ∷ bs)) h ∙ ap (λ n. take n (b ∷ bs)) n

pub while_end : (p : ℕ → Bool) (b : ℕ) (bs : List ℕ) → p b ≡ false → take_while p (b ∷ bs) ≡ []
while_end p b bs h = ap (λ t. take (cond t (1 + prefix_len p bs) 0) (b ∷ bs)) h

letters_more : (b : ℕ) (bs : List ℕ) → is_ascii_alphabetic b ≡ true → letters_of (b ∷ bs) ≡ b ∷ letters_of bs
letters_more b bs h = while_more is_ascii_alphabetic b bs h

line_more : (b : ℕ) (bs : List ℕ) → (b == 10) ≡ false → line_of (b ∷ bs) ≡ b ∷ line_of bs
line_more b bs h = while_more (λ b. not (b == 10)) b bs (ap not h)

-- behind a byte that does not end the line
behind_more : (place b : ℕ) (bs : List ℕ) → (b == 10) ≡ false → behind_line place (b ∷ bs) ≡ behind_line (place + 1) bs
behind_more place b bs h = ap (λ l. pieces_behind (length l) place (b ∷ bs)) (line_more b bs h)

-- a word by whether its letters match, how many there are, and the line behind
abbrev word_by : ℕ → Bool → ℕ → ℕ → List ℕ → List (ℕ × Piece) → List (ℕ × Piece)
word_by at matches n place line rest =
    (if matches then (at, DimensionWord) ∷ number_line (place + n) (drop n line) else (at, SkippedLine) ∷ []) ++ rest

same_word : (at place m : ℕ) (b : ℕ) (bs : List ℕ) → is_ascii_alphabetic b ≡ true
    → left (Word at m) place (b ∷ bs) ≡ word_by at (pointwise nat_eq (drop m DIMENSION) (b ∷ letters_of bs)) (suc (length (letters_of bs))) place (b ∷ line_of bs) (behind_line (place + 1) bs)
same_word at place m b bs h =
    let l = letter_no_line b h in
    ap (λ ls. word_by at (pointwise nat_eq (drop m DIMENSION) ls) (length ls) place (line_of (b ∷ bs)) (behind_line place (b ∷ bs))) (letters_more b bs h)
    ∙ ap (λ line. word_by at (pointwise nat_eq (drop m DIMENSION) (b ∷ letters_of bs)) (suc (length (letters_of bs))) place line (behind_line place (b ∷ bs))) (line_more b bs l)
    ∙ ap (word_by at (pointwise nat_eq (drop m DIMENSION) (b ∷ letters_of bs)) (suc (length (letters_of bs))) place (b ∷ line_of bs)) (behind_more place b bs l)

nat_eq_same : (b : ℕ) → nat_eq b b ≡ true
nat_eq_same b = grind (arith, nat_tests)

pub letter_matches : (at m b : ℕ) → m < 9 → get_or DIMENSION m 0 ≡ b → is_ascii_alphabetic b ≡ true → (place : ℕ) (bs : List ℕ)
    → left (Word at m) place (b ∷ bs) ≡ left (Word at (m + 1)) (place + 1) bs
letter_matches at m b lt e h place bs =
    let d : drop m DIMENSION ≡ b ∷ drop (m + 1) DIMENSION = drop_more DIMENSION m 0 lt ∙ ap (λ z. z ∷ drop (m + 1) DIMENSION) e in
    let n : place + suc (length (letters_of bs)) ≡ place + 1 + length (letters_of bs) = omega arith in
    same_word at place m b bs h
    ∙ ap (λ ds. word_by at (pointwise nat_eq ds (b ∷ letters_of bs)) (suc (length (letters_of bs))) place (b ∷ line_of bs) (behind_line (place + 1) bs)) d
    ∙ ap (λ t. word_by at (t && pointwise nat_eq (drop (m + 1) DIMENSION) (letters_of bs)) (suc (length (letters_of bs))) place (b ∷ line_of bs) (behind_line (place + 1) bs)) (nat_eq_same b)
    ∙ ap (λ k. (if pointwise nat_eq (drop (m + 1) DIMENSION) (letters_of bs) then (at, DimensionWord) ∷ number_line k (drop (length (letters_of bs)) (line_of bs)) else (at, SkippedLine) ∷ []) ++ behind_line (place + 1) bs) n

-- a letter that does not go on with `dimension`
no_match : (m b : ℕ) (ls : List ℕ) → (9 ≤ m) ⊎ ((m < 9) × (get_or DIMENSION m 0 ≡ b → ⊥)) → pointwise nat_eq (drop m DIMENSION) (b ∷ ls) ≡ false
no_match m b ls h = ⊎_elim
    (λ le. ap (λ ds. pointwise nat_eq ds (b ∷ ls)) (drop_all m DIMENSION le))
    (λ p. let ne : nat_eq (get_or DIMENSION m 0) b ≡ false = differs (get_or DIMENSION m 0) b p.1 in
    ap (λ ds. pointwise nat_eq ds (b ∷ ls)) (drop_more DIMENSION m 0 p.0) ∙ ap (λ t. t && pointwise nat_eq (drop (m + 1) DIMENSION) ls) ne) h
  where
    differs : (a b : ℕ) → (a ≡ b → ⊥) → nat_eq a b ≡ false
    differs a b h = grind (arith, nat_tests)

pub letter_differs : (at m b : ℕ) → (9 ≤ m) ⊎ ((m < 9) × (get_or DIMENSION m 0 ≡ b → ⊥)) → is_ascii_alphabetic b ≡ true → (place : ℕ) (bs : List ℕ)
    → left (Word at m) place (b ∷ bs) ≡ (at, SkippedLine) ∷ left Line (place + 1) bs
letter_differs at m b d h place bs =
    same_word at place m b bs h
    ∙ ap (λ t. word_by at t (suc (length (letters_of bs))) place (b ∷ line_of bs) (behind_line (place + 1) bs)) (no_match m b (letters_of bs) d)

-- a word begins
pub word_begins : (place b : ℕ) (bs : List ℕ) → is_blank b ≡ false → (b == 59) ≡ false → is_ascii_alphabetic b ≡ true
    → pieces_behind 0 place (b ∷ bs) ≡ left (Word place 0) place (b ∷ bs)
word_begins place b bs blank comment h =
    let n : place + suc (length (letters_of bs)) ≡ place + 1 + length (letters_of bs) = omega arith in
    rw (blank, comment, h) (ap (λ k. (if pointwise nat_eq DIMENSION (b ∷ letters_of bs)
    then (place, DimensionWord) ∷ number_line k (drop (length (letters_of bs)) (line_of bs)) else (place, SkippedLine) ∷ []) ++ behind_line (place + 1) bs) (sym n)) ∙ sym (same_word place place 0 b bs h)

-- ---- a dimension line

line_end : (b : ℕ) (bs : List ℕ) → (b == 10) ≡ true → line_of (b ∷ bs) ≡ []
line_end b bs h = while_end (λ b. not (b == 10)) b bs (ap not h)

behind_step : (place b : ℕ) (bs : List ℕ) → (b == 10) ≡ false → left Behind place (b ∷ bs) ≡ number_line place (b ∷ line_of bs) ++ behind_line (place + 1) bs
behind_step place b bs h = ap (λ l. number_line place l ++ behind_line place (b ∷ bs)) (line_more b bs h) ∙ ap (λ l. number_line place (b ∷ line_of bs) ++ l) (behind_more place b bs h)

number_here : (place b v : ℕ) (bs : List ℕ) → v ≡ b - 48 → digits_value v (digits_of bs) ≡ digits_value 0 (b ∷ digits_of bs)
number_here place b v bs e = let f : v ≡ 10 * 0 + (b - 48) = omega arith in ap (λ v. digits_value v (digits_of bs)) f

pub number_begins : (place b v : ℕ) (bs : List ℕ) → (b == 10) ≡ false → is_blank b ≡ false → is_ascii_digit b ≡ true → v ≡ b - 48
    → left Behind place (b ∷ bs) ≡ left (BehindDigits place false v) (place + 1) bs
number_begins place b v bs h blank digit e =
    let f : digits_value v (digits_of (line_of bs)) ≡ digits_value 0 (b ∷ digits_of (line_of bs)) = number_here place b v (line_of bs) e in
    behind_step place b bs h
    ∙ rw (blank, digit) (ap (λ n. numbered place (number_of false n) (tokens_behind (length (digits_of (line_of bs))) (place + 1) (line_of bs)) ++ behind_line (place + 1) bs) (sym f))

pub dash_begins : (place b : ℕ) (bs : List ℕ) → (b == 10) ≡ false → is_blank b ≡ false → is_ascii_digit b ≡ false → (b == 45) ≡ true
    → left Behind place (b ∷ bs) ≡ left (BehindDash place) (place + 1) bs
dash_begins place b bs h blank digit dash = behind_step place b bs h ∙ rw (blank, digit, dash) refl

not_numbered : (place : ℕ) (a m : Bool) (w : List ℕ) (b : ℕ) (ts : List (ℕ × Lexeme)) → numbered place (if a then word w else if m then mark b else other b) ts ≡ (place, NoNumber) ∷ []
not_numbered place true m w b ts = refl
not_numbered place false true w b ts = refl
not_numbered place false false w b ts = refl

pub no_number_begins : (place b : ℕ) (bs : List ℕ) → (b == 10) ≡ false → is_blank b ≡ false → is_ascii_digit b ≡ false → (b == 45) ≡ false
    → left Behind place (b ∷ bs) ≡ (place, NoNumber) ∷ left Line (place + 1) bs
no_number_begins place b bs h blank digit dash =
    behind_step place b bs h
    ∙ rw (blank, digit, dash) (ap (λ l. l ++ behind_line (place + 1) bs) (not_numbered place (is_ascii_alphabetic b) (is_mark b) (b ∷ letters_of (line_of bs)) b _))

after_step : (place b : ℕ) (bs : List ℕ) → (b == 10) ≡ false
    → left AfterNumber place (b ∷ bs) ≡ stray_of (tokens_behind 0 place (b ∷ line_of bs)) ++ behind_line (place + 1) bs
after_step place b bs h = ap (λ l. stray_of (tokens_behind 0 place l) ++ behind_line place (b ∷ bs)) (line_more b bs h)
    ∙ ap (λ l. stray_of (tokens_behind 0 place (b ∷ line_of bs)) ++ l) (behind_more place b bs h)

pub after_blank : (place b : ℕ) (bs : List ℕ) → (b == 10) ≡ false → is_blank b ≡ true → left AfterNumber place (b ∷ bs) ≡ left AfterNumber (place + 1) bs
after_blank place b bs h blank = after_step place b bs h ∙ rw blank refl

while_twice : (p : ℕ → Bool) (bs : List ℕ) → take_while p (take_while p bs) ≡ take_while p bs
while_twice p [] = refl
while_twice p (b ∷ bs) = ⊎_elim
    (λ t. ap (take_while p) (while_more p b bs t) ∙ while_more p b (take_while p bs) t ∙ ap (λ l. b ∷ l) (while_twice p bs) ∙ sym (while_more p b bs t))
    (λ f. ap (take_while p) (while_end p b bs f) ∙ sym (while_end p b bs f))
    (cases_Bool (p b))

all_skipped : (n place : ℕ) (bs : List ℕ) → n ≡ length bs → tokens_behind n place bs ≡ []
all_skipped n place [] e = refl
all_skipped zero place (b ∷ bs) e = absurd (omega arith)
all_skipped (suc n) place (b ∷ bs) e = all_skipped n (place + 1) bs (omega arith)

pub after_comment : (place b : ℕ) (bs : List ℕ) → (b == 10) ≡ false → is_blank b ≡ false → (b == 59) ≡ true → left AfterNumber place (b ∷ bs) ≡ left Line (place + 1) bs
after_comment place b bs h blank comment =
    let none : tokens_behind (length (line_of (line_of bs))) (place + 1) (line_of bs) ≡ [] =
    all_skipped _ (place + 1) (line_of bs) (ap length (while_twice (λ b. not (b == 10)) bs)) in
    after_step place b bs h ∙ rw (blank, comment) (ap (λ ts. stray_of ts ++ behind_line (place + 1) bs) none)

pub after_stray : (place b : ℕ) (bs : List ℕ) → (b == 10) ≡ false → is_blank b ≡ false → (b == 59) ≡ false
    → left AfterNumber place (b ∷ bs) ≡ (place, Stray) ∷ left Line (place + 1) bs
after_stray place b bs h blank comment = after_step place b bs h ∙ rw (blank, comment) refl

-- ---- numbers

same_capped : (n m : ℕ) (ds : List ℕ) → min n CAP ≡ min m CAP → min (digits_value n ds) CAP ≡ min (digits_value m ds) CAP
same_capped n m [] e = e
same_capped n m (d ∷ ds) e = same_capped (10 * n + (d - 48)) (10 * m + (d - 48)) ds (omega arith)

number_capped : (negative : Bool) (n m : ℕ) → min n CAP ≡ min m CAP → number_of negative n ≡ number_of negative m
number_capped true n m e = by_test (nat_le n (2 ^ 63)) (nat_le m (2 ^ 63)) n m (λ k. number (neg_ℤ (pos k))) (grind (arith, nat_tests)) (λ h. grind (arith, nat_tests))
  where
    by_test : (a b : Bool) (n m : ℕ) (f : ℕ → Lexeme) → a ≡ b → (b ≡ true → n ≡ m) → (if a then f n else wide) ≡ (if b then f m else wide)
    by_test a true n m f e g = ap (λ t. if t then f n else wide) e ∙ ap f (g refl)
    by_test a false n m f e g = ap (λ t. if t then f n else wide) e
number_capped false n m e = by_test (nat_lt n (2 ^ 63)) (nat_lt m (2 ^ 63)) n m (λ k. number (pos k)) (grind (arith, nat_tests)) (λ h. grind (arith, nat_tests))
  where
    by_test : (a b : Bool) (n m : ℕ) (f : ℕ → Lexeme) → a ≡ b → (b ≡ true → n ≡ m) → (if a then f n else wide) ≡ (if b then f m else wide)
    by_test a true n m f e g = ap (λ t. if t then f n else wide) e ∙ ap f (g refl)
    by_test a false n m f e g = ap (λ t. if t then f n else wide) e

digits_more : (b : ℕ) (bs : List ℕ) → is_ascii_digit b ≡ true → digits_of (b ∷ bs) ≡ b ∷ digits_of bs
digits_more b bs h = while_more is_ascii_digit b bs h

digits_end : (b : ℕ) (bs : List ℕ) → is_ascii_digit b ≡ false → digits_of (b ∷ bs) ≡ []
digits_end b bs h = while_end is_ascii_digit b bs h

digit_no_line : (b : ℕ) → is_ascii_digit b ≡ true → (b == 10) ≡ false
digit_no_line b h = grind (arith, nat_tests)

-- one more digit of a value that is capped
capped_more : (negative : Bool) (value next b : ℕ) (ds : List ℕ) → next ≡ min (10 * value + (b - 48)) CAP
    → number_of negative (digits_value value (b ∷ ds)) ≡ number_of negative (digits_value next ds)
capped_more negative value next b ds e =
    number_capped negative (digits_value (10 * value + (b - 48)) ds) (digits_value next ds) (same_capped (10 * value + (b - 48)) next ds (omega arith))

pub digit_more : (at : ℕ) (negative : Bool) (value next place b : ℕ) (bs : List ℕ) → is_ascii_digit b ≡ true → next ≡ min (10 * value + (b - 48)) CAP
    → left (Digits at negative value) place (b ∷ bs) ≡ left (Digits at negative next) (place + 1) bs
digit_more at negative value next place b bs digit e =
    ap (λ ds. (at, piece_of (number_of negative (digits_value value ds))) ∷ pieces_behind (length ds) place (b ∷ bs)) (digits_more b bs digit)
    ∙ ap (λ n. (at, piece_of n) ∷ pieces_behind (length (digits_of bs)) (place + 1) bs) (capped_more negative value next b (digits_of bs) e)

pub behind_digit_more : (at : ℕ) (negative : Bool) (value next place b : ℕ) (bs : List ℕ) → is_ascii_digit b ≡ true → next ≡ min (10 * value + (b - 48)) CAP
    → left (BehindDigits at negative value) place (b ∷ bs) ≡ left (BehindDigits at negative next) (place + 1) bs
behind_digit_more at negative value next place b bs digit e =
    let l = digit_no_line b digit in
    ap (λ l. numbered at (number_of negative (digits_value value (digits_of l))) (tokens_behind (length (digits_of l)) place l) ++ behind_line place (b ∷ bs)) (line_more b bs l)
    ∙ ap (λ l. numbered at (number_of negative (digits_value value (digits_of (b ∷ line_of bs)))) (tokens_behind (length (digits_of (b ∷ line_of bs))) place (b ∷ line_of bs)) ++ l) (behind_more place b bs l)
    ∙ ap (λ ds. numbered at (number_of negative (digits_value value ds)) (tokens_behind (length ds) place (b ∷ line_of bs)) ++ behind_line (place + 1) bs) (digits_more b (line_of bs) digit)
    ∙ ap (λ n. numbered at n (tokens_behind (length (digits_of (line_of bs))) (place + 1) (line_of bs)) ++ behind_line (place + 1) bs) (capped_more negative value next b (digits_of (line_of bs)) e)

no_digits : (b : ℕ) (bs : List ℕ) → is_ascii_digit b ≡ false → digits_of (line_of (b ∷ bs)) ≡ []
no_digits b bs digit = ⊎_elim
    (λ t. ap digits_of (line_end b bs t))
    (λ f. ap digits_of (line_more b bs f) ∙ digits_end b (line_of bs) digit)
    (cases_Bool (b == 10))

behind_digits_stop : (at : ℕ) (negative : Bool) (value place b : ℕ) (bs : List ℕ) → is_ascii_digit b ≡ false
    → left (BehindDigits at negative value) place (b ∷ bs)
    ≡ numbered at (number_of negative value) (tokens_behind 0 place (line_of (b ∷ bs))) ++ behind_line place (b ∷ bs)
behind_digits_stop at negative value place b bs digit =
    ap (λ ds. numbered at (number_of negative (digits_value value ds)) (tokens_behind (length ds) place (line_of (b ∷ bs))) ++ behind_line place (b ∷ bs)) (no_digits b bs digit)

pub behind_number_is : (at : ℕ) (negative : Bool) (value place b : ℕ) (bs : List ℕ) (z : ℤ) → is_ascii_digit b ≡ false → Some z ≡ number_in (number_of negative value)
    → left (BehindDigits at negative value) place (b ∷ bs) ≡ (at, DimensionNumber z) ∷ left AfterNumber place (b ∷ bs)
behind_number_is at negative value place b bs z digit e =
    behind_digits_stop at negative value place b bs digit ∙ by_lexeme (number_of negative value) (tokens_behind 0 place (line_of (b ∷ bs))) (behind_line place (b ∷ bs)) e
  where
    by_lexeme : (l : Lexeme) (ts : List (ℕ × Lexeme)) (rest : List (ℕ × Piece)) → Some z ≡ number_in l → numbered at l ts ++ rest ≡ (at, DimensionNumber z) ∷ (stray_of ts ++ rest)
    by_lexeme (number y) ts rest e = let f : y ≡ z = cc in ap (λ y. (at, DimensionNumber y) ∷ (stray_of ts ++ rest)) f
    by_lexeme wide ts rest e = cc
    by_lexeme arrow ts rest e = cc
    by_lexeme (word w) ts rest e = cc
    by_lexeme (mark b) ts rest e = cc
    by_lexeme (other b) ts rest e = cc

pub behind_number_none : (at : ℕ) (negative : Bool) (value place b : ℕ) (bs : List ℕ) → is_ascii_digit b ≡ false → None ≡ number_in (number_of negative value)
    → left (BehindDigits at negative value) place (b ∷ bs) ≡ (at, NoNumber) ∷ behind_line place (b ∷ bs)
behind_number_none at negative value place b bs digit e =
    behind_digits_stop at negative value place b bs digit ∙ by_lexeme (number_of negative value) (tokens_behind 0 place (line_of (b ∷ bs))) (behind_line place (b ∷ bs)) e
  where
    by_lexeme : (l : Lexeme) (ts : List (ℕ × Lexeme)) (rest : List (ℕ × Piece)) → None ≡ number_in l → numbered at l ts ++ rest ≡ (at, NoNumber) ∷ rest
    by_lexeme (number y) ts rest e = cc
    by_lexeme wide ts rest e = refl
    by_lexeme arrow ts rest e = refl
    by_lexeme (word w) ts rest e = refl
    by_lexeme (mark b) ts rest e = refl
    by_lexeme (other b) ts rest e = refl

-- ---- the end of a word

letters_end : (b : ℕ) (bs : List ℕ) → is_ascii_alphabetic b ≡ false → letters_of (b ∷ bs) ≡ []
letters_end b bs h = while_end is_ascii_alphabetic b bs h

pub word_is_not : (at m place b : ℕ) (bs : List ℕ) → m < 9 → is_ascii_alphabetic b ≡ false → left (Word at m) place (b ∷ bs) ≡ (at, SkippedLine) ∷ behind_line place (b ∷ bs)
word_is_not at m place b bs lt h =
    ap (λ ls. word_by at (pointwise nat_eq (drop m DIMENSION) ls) (length ls) place (line_of (b ∷ bs)) (behind_line place (b ∷ bs))) (letters_end b bs h)
    ∙ ap (λ ds. word_by at (pointwise nat_eq ds []) 0 place (line_of (b ∷ bs)) (behind_line place (b ∷ bs))) (drop_more DIMENSION m 0 lt)

-- a text that ends is one whose line ends there
pub at_end : (carry : Carry) (place : ℕ) → left carry place [] ≡ left carry place (10 ∷ [])
at_end Between place = refl
at_end Line place = refl
at_end (Dash at) place = refl
at_end (Digits at negative value) place = refl
at_end (Word at m) place = refl
at_end Behind place = refl
at_end (BehindDash at) place = refl
at_end (BehindDigits at negative value) place = refl
at_end AfterNumber place = refl
