-- What the parts of a written set tell a reader.
use Rattle.std.proofs.Common.{◌≡◌, ℕ, suc, ◌+◌, ◌-◌, ◌*◌, ◌^◌, ◌<◌, ◌≤◌, ℤ, pos, negsuc, List, [], ◌∷◌, ◌++◌, length, drop, map, take_while, Bool, true, false, ◌==◌, not, nat_lt, nat_le, if◌then◌else◌, refl, sym, ap, ◌∙◌, subst, arith, append_assoc, true≢false, rules}
use Rattle.std.specs.List.{list_all}
use Rattle.std.specs.Char.{is_ascii_digit, is_ascii_alphabetic}
use Rattle.std.specs.Fmt.{decimal as natural_text}
use Rattle.std.proofs.lemmas.Bool.Decides.{nat_tests}
use Rattle.std.proofs.lemmas.Fmt.{digits_decimal, digits_value-decimal, decimal_nonempty}
use Rattle.std.proofs.lemmas.Int.{ints}
use Rattle.std.proofs.lemmas.Str.Parse.{IsDigitsTest, FoldsDigits, IsNumeralModel, numerals_by_fold}
use Rattle.outside.specs.Decimal.{decimal}
use Rattle.outside.specs.Tokens.{Lexeme, number, wide, arrow, word, mark, other, is_mark, is_blank, letters_of, line_of, digits_of, digits_value, number_of, dashed, dashed_size, lexeme_at, size_behind, tokens_behind}
use Rattle.elem_cubes.specs.Corners.{is_file_end}
use Rattle.grid_files.specs.declared.piece.Piece.{Piece}
use Rattle.grid_files.specs.declared.piece.Piece.TheVariants.{Number, Mark, SkippedLine, DimensionWord, DimensionNumber}
use Rattle.grid_files.specs.declared.piece.TheConstants.{DIMENSION}
use Rattle.grid_files.specs.Items.{closed}
use Rattle.grid_files.specs.Pieces.{piece_of, is_dimension, pieces_behind, word_line, numbered, number_line, stray_of}
use Rattle.grid_files.specs.SetFile.{said}
use Rattle.corner_texts.specs.CornerText.{spaced, corner_text}
use Rattle.grid_files.proofs.Scanning.{while_more, while_end}
use Rattle.cube_sets.proofs.Sorting.{and_true}

-- before these bytes the text tells these pieces, and no part of a piece is left
abbrev pub Tells : List ℕ → List ℕ → List Piece → Type 0
Tells text rest ps = (place : ℕ) → (here : List (ℕ × Piece)) × (after : ℕ) × (said here ≡ ps) × (pieces_behind 0 place (text ++ rest) ≡ here ++ pieces_behind 0 after rest)

said-append : (xs ys : List (ℕ × Piece)) → said (xs ++ ys) ≡ said xs ++ said ys
said-append [] ys = refl
said-append (x ∷ xs) ys = ap (λ l. x.1 ∷ l) (said-append xs ys)

pub joined : (a b rest : List ℕ) (ps qs : List Piece) → Tells a (b ++ rest) ps → Tells b rest qs → Tells (a ++ b) rest (ps ++ qs)
joined a b rest ps qs f g = λ place.
    let x = f place in
    let y = g x.1 in (
      x.0 ++ y.0,
      y.1,
      said-append x.0 y.0 ∙ (λ i. x.2 i ++ y.2 i),
      ap (pieces_behind 0 place) (append_assoc a b rest) ∙ x.3 ∙ ap (λ l. x.0 ++ l) y.3 ∙ sym (append_assoc x.0 y.0 (pieces_behind 0 y.1 rest)),
    )

-- ---- marks and blanks

pub tells_open : (rest : List ℕ) → Tells (40 ∷ []) rest (Mark 40 ∷ [])
tells_open rest = λ place. ((place, Mark 40) ∷ [], place + 1, refl, refl)

pub tells_close : (rest : List ℕ) → Tells (41 ∷ []) rest (Mark 41 ∷ [])
tells_close rest = λ place. ((place, Mark 41) ∷ [], place + 1, refl, refl)

pub tells_begin : (rest : List ℕ) → Tells (91 ∷ []) rest (Mark 91 ∷ [])
tells_begin rest = λ place. ((place, Mark 91) ∷ [], place + 1, refl, refl)

pub tells_end : (rest : List ℕ) → Tells (93 ∷ []) rest (Mark 93 ∷ [])
tells_end rest = λ place. ((place, Mark 93) ∷ [], place + 1, refl, refl)

tells_space : (rest : List ℕ) → Tells (32 ∷ []) rest []
tells_space rest = λ place. ([], place + 1, refl, refl)

pub tells_line_feed : (rest : List ℕ) → Tells (10 ∷ []) rest []
tells_line_feed rest = λ place. ([], place + 1, refl, refl)

-- ---- digits

abbrev pub are_digits : List ℕ → Bool
are_digits ds = list_all is_ascii_digit ds

digits_test : IsDigitsTest (λ ds. are_digits ds ≡ true)
digits_test = search rules

folds : FoldsDigits digits_value
folds = record {
  empty = λ n. refl;
  more = λ n c cs h. let e : 10 * n + (c - 48) ≡ n * 10 + (c - 48) = omega arith in ap (λ m. digits_value m cs) e;
}

own : IsNumeralModel (λ ds. are_digits ds ≡ true) (digits_value 0)
own = numerals_by_fold (λ ds. are_digits ds ≡ true) digits_test digits_value folds

-- what follows begins with no digit
abbrev pub no_digit : List ℕ → Bool
no_digit [] = true
no_digit (b ∷ bs) = not (is_ascii_digit b)

not_true : (b : Bool) → not b ≡ true → b ≡ false
not_true true h = absurd (true≢false (sym h))
not_true false h = refl

digits_front : (ds rest : List ℕ) → are_digits ds ≡ true → no_digit rest ≡ true → digits_of (ds ++ rest) ≡ ds
digits_front [] [] h k = refl
digits_front [] (b ∷ bs) h k = while_end is_ascii_digit b bs (not_true (is_ascii_digit b) k)
digits_front (d ∷ ds) rest h k =
    let both = and_true (is_ascii_digit d) (are_digits ds) h in
    while_more is_ascii_digit d (ds ++ rest) both.0 ∙ ap (λ l. d ∷ l) (digits_front ds rest both.1 k)

digit_blank : (b : ℕ) → is_ascii_digit b ≡ true → is_blank b ≡ false
digit_blank b h = grind (arith, nat_tests)

digit_comment : (b : ℕ) → is_ascii_digit b ≡ true → (b == 59) ≡ false
digit_comment b h = grind (arith, nat_tests)

digit_letter : (b : ℕ) → is_ascii_digit b ≡ true → is_ascii_alphabetic b ≡ false
digit_letter b h = grind (arith, nat_tests)

digit_line : (b : ℕ) → is_ascii_digit b ≡ true → (b == 10) ≡ false
digit_line b h = grind (arith, nat_tests)

-- the bytes that belong to what stands before
skipped : (xs rest : List ℕ) (place : ℕ) → pieces_behind (length xs) place (xs ++ rest) ≡ pieces_behind 0 (place + length xs) rest
skipped [] rest place = let e : place ≡ place + 0 = omega arith in ap (λ n. pieces_behind 0 n rest) e
skipped (x ∷ xs) rest place = let e : (place + 1) + length xs ≡ place + suc (length xs) = omega arith in skipped xs rest (place + 1) ∙ ap (λ n. pieces_behind 0 n rest) e

-- a digit begins a number
digit_begins : (place d : ℕ) (bs : List ℕ) → is_ascii_digit d ≡ true
    → pieces_behind 0 place (d ∷ bs) ≡ (place, piece_of (number_of false (digits_value 0 (d ∷ digits_of bs)))) ∷ pieces_behind (length (digits_of bs)) (place + 1) bs
digit_begins place d bs h =
    let letters : List (ℕ × Piece) = word_line place d bs ++ pieces_behind (length (line_of bs)) (place + 1) bs in
    let comment : List (ℕ × Piece) = pieces_behind (length (line_of bs)) (place + 1) bs in
    let token : List (ℕ × Piece) = (place, piece_of (lexeme_at d bs)) ∷ pieces_behind (size_behind d bs) (place + 1) bs in
    let rest : Lexeme = if d == 45 then dashed bs else if is_ascii_alphabetic d then word (d ∷ letters_of bs) else if is_mark d then mark d else other d in
    let size : ℕ = if d == 45 then dashed_size bs else if is_ascii_alphabetic d then length (letters_of bs) else 0 in
    ap (λ t. if t then pieces_behind 0 (place + 1) bs else if d == 59 then comment else if is_ascii_alphabetic d then letters else token) (digit_blank d h)
    ∙ ap (λ t. if t then comment else if is_ascii_alphabetic d then letters else token) (digit_comment d h)
    ∙ ap (λ t. if t then letters else token) (digit_letter d h)
    ∙ ap (λ t. (place, piece_of (if t then number_of false (digits_value 0 (d ∷ digits_of bs)) else rest)) ∷ pieces_behind (if t then length (digits_of bs) else size) (place + 1) bs) h

-- a dash before a digit begins a number
dash_begins : (place d : ℕ) (bs : List ℕ) → is_ascii_digit d ≡ true
    → pieces_behind 0 place (45 ∷ d ∷ bs) ≡ (place, piece_of (number_of true (digits_value 0 (d ∷ digits_of bs)))) ∷ pieces_behind (length (digits_of bs)) ((place + 1) + 1) bs
dash_begins place d bs h =
    ap (λ t. (place, piece_of (if t then number_of true (digits_value 0 (d ∷ digits_of bs)) else if d == 62 then arrow else other 45)) ∷ pieces_behind (if t then suc (length (digits_of bs)) else if d == 62 then 1 else 0) (place + 1) (d ∷ bs)) h

small : (n : ℕ) → n < 2 ^ 63 → number_of false n ≡ number (pos n)
small n h = let t : nat_lt n (2 ^ 63) ≡ true = grind (arith, nat_tests) in ap (λ b. if b then number (pos n) else wide) t

small_negative : (n : ℕ) → suc n ≤ 2 ^ 63 → number_of true (suc n) ≡ number (negsuc n)
small_negative n h = let t : nat_le (suc n) (2 ^ 63) ≡ true = grind (arith, nat_tests) in ap (λ b. if b then number (negsuc n) else wide) t

tells_digits : (d : ℕ) (ds rest : List ℕ) (n : ℕ) → are_digits (d ∷ ds) ≡ true → digits_value 0 (d ∷ ds) ≡ n → n < 2 ^ 63 → no_digit rest ≡ true → Tells (d ∷ ds) rest (Number (pos n) ∷ [])
tells_digits d ds rest n h v lt k = λ place.
    let both = and_true (is_ascii_digit d) (are_digits ds) h in (
      (place, Number (pos n)) ∷ [],
      (place + 1) + length ds,
      refl,
      digit_begins place d (ds ++ rest) both.0
          ∙ ap (λ l. (place, piece_of (number_of false (digits_value 0 (d ∷ l)))) ∷ pieces_behind (length l) (place + 1) (ds ++ rest)) (digits_front ds rest both.1 k)
          ∙ ap (λ m. (place, piece_of (number_of false m)) ∷ pieces_behind (length ds) (place + 1) (ds ++ rest)) v
          ∙ ap (λ t. (place, piece_of t) ∷ pieces_behind (length ds) (place + 1) (ds ++ rest)) (small n lt)
          ∙ ap (λ l. (place, Number (pos n)) ∷ l) (skipped ds rest (place + 1)),
    )

tells_negative : (d : ℕ) (ds rest : List ℕ) (n : ℕ) → are_digits (d ∷ ds) ≡ true → digits_value 0 (d ∷ ds) ≡ suc n → suc n ≤ 2 ^ 63 → no_digit rest ≡ true → Tells (45 ∷ d ∷ ds) rest (Number (negsuc n) ∷ [])
tells_negative d ds rest n h v le k = λ place.
    let both = and_true (is_ascii_digit d) (are_digits ds) h in (
      (place, Number (negsuc n)) ∷ [],
      ((place + 1) + 1) + length ds,
      refl,
      dash_begins place d (ds ++ rest) both.0
          ∙ ap (λ l. (place, piece_of (number_of true (digits_value 0 (d ∷ l)))) ∷ pieces_behind (length l) ((place + 1) + 1) (ds ++ rest)) (digits_front ds rest both.1 k)
          ∙ ap (λ m. (place, piece_of (number_of true m)) ∷ pieces_behind (length ds) ((place + 1) + 1) (ds ++ rest)) v
          ∙ ap (λ t. (place, piece_of t) ∷ pieces_behind (length ds) ((place + 1) + 1) (ds ++ rest)) (small_negative n le)
          ∙ ap (λ l. (place, Number (negsuc n)) ∷ l) (skipped ds rest ((place + 1) + 1)),
    )

some_text : (n : ℕ) → n < 2 ^ 64 → natural_text n ≡ [] → ⊥
some_text n lt e = absurd (omega (arith, ap length e, decimal_nonempty n lt))

-- the text of a natural number is a digit, and more
pub by_digits : (n : ℕ) (P : List ℕ → Type 0) → n < 2 ^ 64 → ((d : ℕ) (ds : List ℕ) → are_digits (d ∷ ds) ≡ true → digits_value 0 (d ∷ ds) ≡ n → P (d ∷ ds)) → P (natural_text n)
by_digits n P lt f = by_text (natural_text n) refl
  where
    by_text : (text : List ℕ) → natural_text n ≡ text → P (natural_text n)
    by_text [] e = absurd (some_text n lt e)
    by_text (d ∷ ds) e = subst P (sym e) (f d ds (ap are_digits (sym e) ∙ digits_decimal own n lt) (ap (digits_value 0) (sym e) ∙ digits_value-decimal own n lt))

low_enough : (n : ℕ) → is_file_end (pos n) ≡ true → n < 2 ^ 32
low_enough n h = grind (arith, ints)

high_enough : (n : ℕ) → is_file_end (negsuc n) ≡ true → suc n < 2 ^ 32
high_enough n h = grind (arith, ints)

pub tells_number : (z : ℤ) (rest : List ℕ) → is_file_end z ≡ true → no_digit rest ≡ true → Tells (decimal z) rest (Number z ∷ [])
tells_number (pos n) rest h k =
    let lt = low_enough n h in
    by_digits n (λ text. Tells text rest (Number (pos n) ∷ [])) (omega arith) (λ d ds a v. tells_digits d ds rest n a v (omega arith) k)
tells_number (negsuc n) rest h k =
    let lt = high_enough n h in
    by_digits (suc n) (λ text. Tells (45 ∷ text) rest (Number (negsuc n) ∷ [])) (omega arith) (λ d ds a v. tells_negative d ds rest n a v (omega arith) k)

-- ---- corners

spaced_no_digit : (zs : List ℤ) (rest : List ℕ) → no_digit rest ≡ true → no_digit (spaced zs ++ rest) ≡ true
spaced_no_digit [] rest h = h
spaced_no_digit (z ∷ zs) rest h = refl

tells_spaced : (zs : List ℤ) (rest : List ℕ) → list_all is_file_end zs ≡ true → no_digit rest ≡ true → Tells (spaced zs) rest (map Number zs)
tells_spaced [] rest h k = λ place. ([], place, refl, refl)
tells_spaced (z ∷ zs) rest h k =
    let both = and_true (is_file_end z) (list_all is_file_end zs) h in
    let one = joined (32 ∷ []) (decimal z) (spaced zs ++ rest) [] (Number z ∷ []) (tells_space (decimal z ++ (spaced zs ++ rest))) (tells_number z (spaced zs ++ rest) both.0 (spaced_no_digit zs rest k)) in
    joined (32 ∷ decimal z) (spaced zs) rest (Number z ∷ []) (map Number zs) one (tells_spaced zs rest both.1 k)

pub tells_corner : (z : ℤ) (zs : List ℤ) (rest : List ℕ) → list_all is_file_end (z ∷ zs) ≡ true → Tells (corner_text (z ∷ zs)) rest (closed (z ∷ zs))
tells_corner z zs rest h =
    let both = and_true (is_file_end z) (list_all is_file_end zs) h in
    let numbers = joined (decimal z) (spaced zs) (41 ∷ rest) (Number z ∷ []) (map Number zs) (tells_number z (spaced zs ++ 41 ∷ rest) both.0 (spaced_no_digit zs (41 ∷ rest) refl)) (tells_spaced zs (41 ∷ rest) both.1 refl) in
    let more = joined (decimal z ++ spaced zs) (41 ∷ []) rest (Number z ∷ map Number zs) (Mark 41 ∷ []) numbers (tells_close rest) in
    joined (40 ∷ []) ((decimal z ++ spaced zs) ++ 41 ∷ []) rest (Mark 40 ∷ []) ((Number z ∷ map Number zs) ++ Mark 41 ∷ []) (tells_open (((decimal z ++ spaced zs) ++ 41 ∷ []) ++ rest)) more

-- ---- the dimension line

front_kept : (p : ℕ → Bool) (xs rest : List ℕ) → list_all p xs ≡ true → take_while p (xs ++ rest) ≡ xs ++ take_while p rest
front_kept p [] rest h = refl
front_kept p (x ∷ xs) rest h =
    let both = and_true (p x) (list_all p xs) h in
    while_more p x (xs ++ rest) both.0 ∙ ap (λ l. x ∷ l) (front_kept p xs rest both.1)

line_front : (ds rest : List ℕ) → are_digits ds ≡ true → line_of (ds ++ 10 ∷ rest) ≡ ds
line_front [] rest h = refl
line_front (d ∷ ds) rest h =
    let both = and_true (is_ascii_digit d) (are_digits ds) h in
    while_more (λ b. not (b == 10)) d (ds ++ 10 ∷ rest) (ap not (digit_line d both.0)) ∙ ap (λ l. d ∷ l) (line_front ds rest both.1)

digits_all : (ds : List ℕ) → are_digits ds ≡ true → digits_of ds ≡ ds
digits_all [] h = refl
digits_all (d ∷ ds) h =
    let both = and_true (is_ascii_digit d) (are_digits ds) h in
    while_more is_ascii_digit d ds both.0 ∙ ap (λ l. d ∷ l) (digits_all ds both.1)

no_tokens : (ds : List ℕ) (place : ℕ) → tokens_behind (length ds) place ds ≡ []
no_tokens [] place = refl
no_tokens (d ∷ ds) place = no_tokens ds (place + 1)

number_line_is : (place d : ℕ) (ds : List ℕ) (n : ℕ) → are_digits (d ∷ ds) ≡ true → digits_value 0 (d ∷ ds) ≡ n → n < 2 ^ 63 → number_line place (d ∷ ds) ≡ (place, DimensionNumber (pos n)) ∷ []
number_line_is place d ds n h v lt =
    let both = and_true (is_ascii_digit d) (are_digits ds) h in
    let rest : Lexeme = if d == 45 then dashed ds else if is_ascii_alphabetic d then word (d ∷ letters_of ds) else if is_mark d then mark d else other d in
    let size : ℕ = if d == 45 then dashed_size ds else if is_ascii_alphabetic d then length (letters_of ds) else 0 in
    ap (λ t. if t then number_line (place + 1) ds else numbered place (lexeme_at d ds) (tokens_behind (size_behind d ds) (place + 1) ds)) (digit_blank d both.0)
    ∙ ap (λ t. numbered place (if t then number_of false (digits_value 0 (d ∷ digits_of ds)) else rest) (tokens_behind (if t then length (digits_of ds) else size) (place + 1) ds)) both.0
    ∙ ap (λ l. numbered place (number_of false (digits_value 0 (d ∷ l))) (tokens_behind (length l) (place + 1) ds)) (digits_all ds both.1)
    ∙ ap (λ m. numbered place (number_of false m) (tokens_behind (length ds) (place + 1) ds)) v
    ∙ ap (λ t. numbered place t (tokens_behind (length ds) (place + 1) ds)) (small n lt)
    ∙ ap (λ ts. (place, DimensionNumber (pos n)) ∷ stray_of ts) (no_tokens ds (place + 1))

-- the letters of `dimension` behind the first, and a space
abbrev pub imension : List ℕ
imension = drop 1 DIMENSION ++ 32 ∷ []

-- a word that begins with `d`, by its further letters and the rest of its line
abbrev word_text : ℕ → List ℕ → List ℕ → List (ℕ × Piece)
word_text place ls line =
    if is_dimension (100 ∷ ls) then (place, DimensionWord) ∷ number_line (place + 1 + length ls) (drop (length ls) line) else (place, SkippedLine) ∷ []

word_begins : (place : ℕ) (bs ls line : List ℕ) → letters_of bs ≡ ls → line_of bs ≡ line
    → pieces_behind 0 place (100 ∷ bs) ≡ word_text place ls line ++ pieces_behind (length line) (place + 1) bs
word_begins place bs ls line e f =
    ap (λ l. word_text place l (line_of bs) ++ pieces_behind (length (line_of bs)) (place + 1) bs) e
    ∙ ap (λ l. word_text place ls l ++ pieces_behind (length l) (place + 1) bs) f

dimension_letters : (more : List ℕ) → letters_of (drop 1 DIMENSION ++ 32 ∷ more) ≡ drop 1 DIMENSION
dimension_letters more = front_kept is_ascii_alphabetic (drop 1 DIMENSION) (32 ∷ more) refl ∙ ap (λ l. drop 1 DIMENSION ++ l) (while_end is_ascii_alphabetic 32 more refl)

dimension_line_is : (ds rest : List ℕ) → are_digits ds ≡ true → line_of (imension ++ ds ++ 10 ∷ rest) ≡ imension ++ ds
dimension_line_is ds rest h = front_kept (λ b. not (b == 10)) imension (ds ++ 10 ∷ rest) refl ∙ ap (λ l. imension ++ l) (line_front ds rest h)

dimension_word : (place : ℕ) (ds : List ℕ) → word_text place (drop 1 DIMENSION) (imension ++ ds) ≡ (place, DimensionWord) ∷ number_line ((place + 1 + 8) + 1) ds
dimension_word place ds = refl

dimension_begins : (place : ℕ) (ds rest : List ℕ) → are_digits ds ≡ true
    → pieces_behind 0 place ((DIMENSION ++ 32 ∷ ds) ++ 10 ∷ rest) ≡ ((place, DimensionWord) ∷ number_line ((place + 1 + 8) + 1) ds) ++ pieces_behind (length (imension ++ ds)) (place + 1) ((imension ++ ds) ++ 10 ∷ rest)
dimension_begins place ds rest h =
    word_begins place ((imension ++ ds) ++ 10 ∷ rest) (drop 1 DIMENSION) (imension ++ ds) (dimension_letters (ds ++ 10 ∷ rest)) (dimension_line_is ds rest h)
    ∙ ap (λ l. l ++ pieces_behind (length (imension ++ ds)) (place + 1) ((imension ++ ds) ++ 10 ∷ rest)) (dimension_word place ds)

dimension_digits : (d : ℕ) (ds : List ℕ) (n : ℕ) → are_digits (d ∷ ds) ≡ true → digits_value 0 (d ∷ ds) ≡ n → n < 2 ^ 63 → (rest : List ℕ)
    → Tells (DIMENSION ++ 32 ∷ (d ∷ ds)) (10 ∷ rest) (DimensionWord ∷ DimensionNumber (pos n) ∷ [])
dimension_digits d ds n h v lt rest = λ place. (
  (place, DimensionWord) ∷ ((place + 1 + 8) + 1, DimensionNumber (pos n)) ∷ [],
  (place + 1) + length (imension ++ d ∷ ds),
  refl,
  dimension_begins place (d ∷ ds) rest h
      ∙ ap (λ l. ((place, DimensionWord) ∷ l) ++ pieces_behind (length (imension ++ d ∷ ds)) (place + 1) ((imension ++ d ∷ ds) ++ 10 ∷ rest)) (number_line_is ((place + 1 + 8) + 1) d ds n h v lt)
      ∙ ap (λ l. (place, DimensionWord) ∷ ((place + 1 + 8) + 1, DimensionNumber (pos n)) ∷ l) (skipped (imension ++ d ∷ ds) (10 ∷ rest) (place + 1)),
)

pub tells_dimension : (n : ℕ) (rest : List ℕ) → n < 2 ^ 63 → Tells (DIMENSION ++ 32 ∷ decimal (pos n)) (10 ∷ rest) (DimensionWord ∷ DimensionNumber (pos n) ∷ [])
tells_dimension n rest lt = by_digits n (λ text. Tells (DIMENSION ++ 32 ∷ text) (10 ∷ rest) (DimensionWord ∷ DimensionNumber (pos n) ∷ [])) (omega arith) (λ d ds h v. dimension_digits d ds n h v lt rest)
