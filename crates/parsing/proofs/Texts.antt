-- What a word looks like, to `clap` and to the rule.
use Rattle.std.proofs.Common.{◌≡◌, ℕ, suc, ◌+◌, ◌<◌, ◌==◌, Bool, true, false, cond, not, ◌||◌, ◌&&◌, List, [], ◌∷◌, length, take, drop, get_or, codes, Option, None, Some, nat_lt, refl, sym, ap, ◌∙◌, arith, true≢false}
use Rattle.std.specs.Option.{option_and_then}
use Rattle.std.specs.List.{position_or_len, before_first, after_first}
use Rattle.std.specs.Str.{bytes_eq}
use Rattle.std.proofs.lemmas.Slice.Eq.{bytes_eq-Decides}
use Rattle.std.proofs.lemmas.Bool.Decides.{Decides-eqb, Decides-ltb}
use Rattle.clap.specs.Lexer.{has_byte, long_of, long_of_rest, name_and_value, short_of, short_of_rest, strip_byte}
use Rattle.clap.specs.Walk.{Text}
use Rattle.command_line.specs.declared.choice.Choice.{Choice}
use Rattle.command_line.specs.declared.choice.Choice.TheVariants.{Modulus, Cycles, Stats, Map, Matrix, Index, Witness, SetAlone}
use Rattle.command_line.specs.Operands.{named}
use Rattle.command_line.specs.Forms.{Row, Next, Anything, ValueOf, OperandsAlone, Nothing, Operand, Set, WordRead, option_name, option_named, takes_value, is_plain, is_empty, is_equals, alone}

-- ---- the rule, but that operands and values may be empty

abbrev pub is_loose : Text → Bool
is_loose word = is_empty word || is_plain word

abbrev pub loose_valued : Option Choice → Text → Option WordRead
loose_valued None value = None
loose_valued (Some choice) value =
    cond (takes_value choice) (Some (record { said = Set (record { choice = choice; value = Some value }); next = Anything })) None

abbrev pub loose_option : Row → Text → Option WordRead
loose_option form word =
    cond (nat_lt (position_or_len is_equals word) (length word))
    (loose_valued (option_named form (before_first is_equals word)) (after_first is_equals word))
    (alone (option_named form word))

abbrev pub loose_read : Row → Next → Text → Option WordRead
loose_read form Anything word =
    cond (bytes_eq word (codes "--")) (Some (record { said = Nothing; next = OperandsAlone }))
    (cond (is_loose word) (Some (record { said = Operand word; next = Anything })) (loose_option form word))
loose_read form (ValueOf choice) word =
    cond (is_loose word) (Some (record { said = Set (record { choice = choice; value = Some word }); next = Anything })) None
loose_read form OperandsAlone word = Some (record { said = Operand word; next = OperandsAlone })

-- ---- four kinds of words

pub data Kind (word : Text) : Type 0 where
  ends : word ≡ 45 ∷ 45 ∷ [] → Kind word
  plain : long_of word ≡ None → short_of word ≡ None → bytes_eq word (45 ∷ 45 ∷ []) ≡ false → is_loose word ≡ true → Kind word
  short : (b : ℕ) (bs : Text) → word ≡ 45 ∷ b ∷ bs → (b == 45) ≡ false → Kind word
  long : (b : ℕ) (bs : Text) → word ≡ 45 ∷ 45 ∷ b ∷ bs → Kind word

is_it : (a b : ℕ) → (a == b) ≡ true → a ≡ b
is_it a b e = (Decides-eqb a b).0 e

pub kind : (word : Text) → Kind word
kind [] = plain refl refl refl refl
kind (b ∷ []) = by (b == 45) refl
  where
    by : (x : Bool) → (b == 45) ≡ x → Kind (b ∷ [])
    by true e = plain
        (ap (λ t. option_and_then long_of_rest (option_and_then (strip_byte 45) (cond t (Some []) None))) e)
        (ap (λ t. option_and_then short_of_rest (cond t (Some []) None)) e)
        (ap (λ t. t && false) e) refl
    by false e = plain
        (ap (λ t. option_and_then long_of_rest (option_and_then (strip_byte 45) (cond t (Some []) None))) e)
        (ap (λ t. option_and_then short_of_rest (cond t (Some []) None)) e)
        (ap (λ t. t && false) e) refl
kind (b ∷ c ∷ rest) = two (b == 45) refl
  where
    three : (x : Bool) → b ≡ 45 → (c == 45) ≡ x → (rest : Text) → Kind (b ∷ c ∷ rest)
    three false first e rest = short c rest (ap (λ k. k ∷ c ∷ rest) first) e
    three true first e [] = ends (λ i. first i ∷ is_it c 45 e i ∷ [])
    three true first e (x ∷ xs) = long x xs (λ i. first i ∷ is_it c 45 e i ∷ x ∷ xs)

    two : (x : Bool) → (b == 45) ≡ x → Kind (b ∷ c ∷ rest)
    two true e = three (c == 45) (is_it b 45 e) refl rest
    two false e = plain
        (ap (λ t. option_and_then long_of_rest (option_and_then (strip_byte 45) (cond t (Some (c ∷ rest)) None))) e)
        (ap (λ t. option_and_then short_of_rest (cond t (Some (c ∷ rest)) None)) e)
        (ap (λ t. t && ((c == 45) && bytes_eq rest [])) e)
        (ap not e)

pub long_of_short : (b : ℕ) (bs : Text) → (b == 45) ≡ false → long_of (45 ∷ b ∷ bs) ≡ None
long_of_short b bs e = ap (λ t. option_and_then long_of_rest (cond t (Some bs) None)) e

pub short_of_short : (b : ℕ) (bs : Text) → (b == 45) ≡ false → short_of (45 ∷ b ∷ bs) ≡ Some (b ∷ bs)
short_of_short b bs e = ap (λ t. cond t None (Some (b ∷ bs))) e

pub not_dashes : (b : ℕ) (bs : Text) → (b == 45) ≡ false → bytes_eq (45 ∷ b ∷ bs) (45 ∷ 45 ∷ []) ≡ false
not_dashes b bs e = ap (λ t. t && bytes_eq bs []) e

pub long_not_dashes : (b : ℕ) (bs : Text) → bytes_eq (45 ∷ 45 ∷ b ∷ bs) (45 ∷ 45 ∷ []) ≡ false
long_not_dashes b bs = refl

-- ---- names

second : Text → ℕ
second name = get_or name 1 0

second_of : (c : Choice) → second (option_name c) ≡ 45
unfolding second
second_of Modulus = refl
second_of Cycles = refl
second_of Stats = refl
second_of Map = refl
second_of Matrix = refl
second_of Index = refl
second_of Witness = refl
second_of SetAlone = refl

-- no option has a name without a dash in its second place
named_dashes : (options : List Choice) (name : Text) → (second name == 45) ≡ false → named option_name options name ≡ None
named_dashes [] name e = refl
named_dashes (c ∷ cs) name e = by (bytes_eq name (option_name c)) refl (named_dashes cs name e)
  where
    by : (b : Bool) → bytes_eq name (option_name c) ≡ b → named option_name cs name ≡ None → cond b (Some c) (named option_name cs name) ≡ None
    by false is later = later
    by true is later =
        let same : second name ≡ 45 = ap second ((bytes_eq-Decides name (option_name c)).0 is) ∙ second_of c in
        absurd (true≢false (sym ((Decides-eqb (second name) 45).1 same) ∙ e))

-- and none has an empty one
pub no_name : (form : Row) → option_named form [] ≡ None
unfolding second
no_name form = named_dashes form.options [] refl

-- ---- the equals sign

one_more : (k : ℕ) → 1 + k ≡ suc k
one_more k = omega arith

lt-suc : (k n : ℕ) → nat_lt (suc k) (suc n) ≡ nat_lt k n
lt-suc k n = by (nat_lt (suc k) (suc n)) (nat_lt k n) refl refl
  where
    by : (x y : Bool) → nat_lt (suc k) (suc n) ≡ x → nat_lt k n ≡ y → x ≡ y
    by true true e f = refl
    by false false e f = refl
    by true false e f = let l : suc k < suc n = (Decides-ltb (suc k) (suc n)).0 e in
        absurd (true≢false (sym ((Decides-ltb k n).1 (omega arith)) ∙ f))
    by false true e f = let l : k < n = (Decides-ltb k n).0 f in
        absurd (true≢false (sym ((Decides-ltb (suc k) (suc n)).1 (omega arith)) ∙ e))

place_past : (x : ℕ) (xs : Text) → is_equals x ≡ false → position_or_len is_equals (x ∷ xs) ≡ suc (position_or_len is_equals xs)
place_past x xs e = ap (λ t. cond (not t) (1 + position_or_len is_equals xs) 0) e ∙ one_more (position_or_len is_equals xs)

pub before_past : (x : ℕ) (xs : Text) → is_equals x ≡ false → before_first is_equals (x ∷ xs) ≡ x ∷ before_first is_equals xs
before_past x xs e = ap (λ k. take k (x ∷ xs)) (place_past x xs e)

after_past : (x : ℕ) (xs : Text) → is_equals x ≡ false → after_first is_equals (x ∷ xs) ≡ after_first is_equals xs
after_past x xs e =
    let k = position_or_len is_equals xs in
    let more : suc k + 1 ≡ suc (k + 1) = omega arith in
    ap (λ k. drop (k + 1) (x ∷ xs)) (place_past x xs e) ∙ ap (λ n. drop n (x ∷ xs)) more

sign_past : (x : ℕ) (xs : Text) → is_equals x ≡ false
    → nat_lt (position_or_len is_equals (x ∷ xs)) (length (x ∷ xs)) ≡ nat_lt (position_or_len is_equals xs) (length xs)
sign_past x xs e = ap (λ k. nat_lt k (suc (length xs))) (place_past x xs e) ∙ lt-suc (position_or_len is_equals xs) (length xs)

has_sign : (xs : Text) → nat_lt (position_or_len is_equals xs) (length xs) ≡ has_byte 61 xs
has_sign [] = refl
has_sign (x ∷ xs) = by (is_equals x) refl (has_sign xs)
  where
    by : (b : Bool) → is_equals x ≡ b → nat_lt (position_or_len is_equals xs) (length xs) ≡ has_byte 61 xs
        → nat_lt (position_or_len is_equals (x ∷ xs)) (length (x ∷ xs)) ≡ (b || has_byte 61 xs)
    by true e later = ap (λ t. nat_lt (cond (not t) (1 + position_or_len is_equals xs) 0) (suc (length xs))) e ∙ (Decides-ltb 0 (suc (length xs))).1 (omega arith)
    by false e later = sign_past x xs e ∙ later

no_sign : (xs : Text) → has_byte 61 xs ≡ false → before_first is_equals xs ≡ xs
no_sign [] e = refl
no_sign (x ∷ xs) e = by (is_equals x) refl e (λ f. no_sign xs f)
  where
    by : (b : Bool) → is_equals x ≡ b → (b || has_byte 61 xs) ≡ false → (has_byte 61 xs ≡ false → before_first is_equals xs ≡ xs) → before_first is_equals (x ∷ xs) ≡ x ∷ xs
    by true is f later = absurd (true≢false f)
    by false is f later = before_past x xs is ∙ ap (λ ys. x ∷ ys) (later f)

-- ---- options

-- a word with one dash in front is no option
pub short_is_none : (form : Row) (b : ℕ) (bs : Text) → (b == 45) ≡ false → loose_option form (45 ∷ b ∷ bs) ≡ None
unfolding second
short_is_none form b bs e = by (nat_lt (position_or_len is_equals (45 ∷ b ∷ bs)) (length (45 ∷ b ∷ bs)))
  where
    front : (t : Bool) → is_equals b ≡ t → (second (45 ∷ before_first is_equals (b ∷ bs)) == 45) ≡ false
    front true is = ap (λ t. second (45 ∷ take (cond (not t) (1 + position_or_len is_equals bs) 0) (b ∷ bs)) == 45) is
    front false is = ap (λ (ys : Text). second (45 ∷ ys) == 45) (before_past b bs is) ∙ e

    by : (t : Bool) → cond t (loose_valued (option_named form (before_first is_equals (45 ∷ b ∷ bs))) (after_first is_equals (45 ∷ b ∷ bs))) (alone (option_named form (45 ∷ b ∷ bs))) ≡ None
    by true =
        let none : option_named form (before_first is_equals (45 ∷ b ∷ bs)) ≡ None =
        ap (option_named form) (before_past 45 (b ∷ bs) refl) ∙ named_dashes form.options (45 ∷ before_first is_equals (b ∷ bs)) (front (is_equals b) refl) in
        ap (λ o. loose_valued o (after_first is_equals (45 ∷ b ∷ bs))) none
    by false = ap alone (named_dashes form.options (45 ∷ b ∷ bs) e)

abbrev pub long_read : Option Choice → Option Text → Option WordRead
long_read choice None = alone choice
long_read choice (Some value) = loose_valued choice value

-- a word with two dashes in front, as `clap` cuts it
pub long_is : (form : Row) (b : ℕ) (bs : Text)
    → loose_option form (45 ∷ 45 ∷ b ∷ bs) ≡ long_read (option_named form (45 ∷ 45 ∷ (name_and_value (b ∷ bs)).0)) (name_and_value (b ∷ bs)).1
long_is form b bs =
    let t : Text = b ∷ bs in
    let before : before_first is_equals (45 ∷ 45 ∷ t) ≡ 45 ∷ 45 ∷ before_first is_equals t = before_past 45 (45 ∷ t) refl ∙ ap (λ (ys : Text). 45 ∷ ys) (before_past 45 t refl) in
    let after : after_first is_equals (45 ∷ 45 ∷ t) ≡ after_first is_equals t = after_past 45 (45 ∷ t) refl ∙ after_past 45 t refl in
    let sign : nat_lt (position_or_len is_equals (45 ∷ 45 ∷ t)) (length (45 ∷ 45 ∷ t)) ≡ has_byte 61 t = sign_past 45 (45 ∷ t) refl ∙ sign_past 45 t refl ∙ has_sign t in
    (λ i. cond (sign i) (loose_valued (option_named form (before i)) (after i)) (alone (option_named form (45 ∷ 45 ∷ t))))
    ∙ by t (has_byte 61 t) refl
  where
    by : (t : Text) (x : Bool) → has_byte 61 t ≡ x
        → cond x (loose_valued (option_named form (45 ∷ 45 ∷ before_first is_equals t)) (after_first is_equals t)) (alone (option_named form (45 ∷ 45 ∷ t)))
        ≡ long_read (option_named form (45 ∷ 45 ∷ before_first is_equals t)) (cond x (Some (after_first is_equals t)) None)
    by t true e = refl
    by t false e = ap (λ (ys : Text). alone (option_named form (45 ∷ 45 ∷ ys))) (sym (no_sign t e))
