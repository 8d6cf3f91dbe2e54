-- Digits and the numbers that they write.
use Rattle.std.proofs.Common.{◌≡◌, ◌≢◌, ℕ, zero, suc, ◌+◌, ◌-◌, ◌*◌, ◌/◌, ◌%◌, ◌^◌, ◌<◌, ◌≤◌, min, refl, sym, ap, ◌∙◌, arith, ⊎_elim, List, [], ◌∷◌, ◌++◌, length, get_or, map, drop, take, take_while, Bool, true, false, cond, ne_eqb, append_assoc, subst}
use Rattle.std.proofs.lemmas.Bool.{true≢false, false≢true, cases_Bool, cases_eq, cases_lt, and_parts, and_from, leb-true, le-leb, lt-ltb, ltb-true, not-true, eqb-false}
use Rattle.std.proofs.lemmas.List.{append-nil, map-append, take_more, length-map}
use Rattle.std.proofs.lemmas.List.Sums.{take_while-cons}
use Rattle.std.proofs.lemmas.Int.Digits.{digits_of_step, all_below_base_digits_of, first_digits_of, number_digits_of, number_push, number_after_ge, number_lt, length-digits_of-le}
use Rattle.std.specs.Prelude.{codes, nat_lt, nat_le, IsTrue, ◌↔◌, ◌==◌, not}
use Rattle.std.specs.Char.{is_ascii_digit}
use Rattle.std.specs.Int.Digits.{digits_of, number_from_digits, number_from_digits_after, AllBelowBase}
use Rattle.std.specs.declared.cmp.Ordering.{Ordering}
use Rattle.std.specs.declared.cmp.Ordering.TheVariants.{Less, Equal, Greater}
use Rattle.std.specs.Ordering.{MatchOrdering, ordering_then, nat_cmp}
use Rattle.std.specs.Cmp.{ranks}
use Rattle.witness_laws.specs.Lines.{numeral}
use Rattle.witness_scanning.specs.Numbers.{NoDigit, AreDigits, is_numeral, HasNumber, HasNoNumber, HasMarked, HasNoMarked, value_of, clipped, IsLast}

-- ---- the digits at the front

yes : (b : ℕ) (bs : List ℕ) → is_ascii_digit b ≡ true → take_while is_ascii_digit (b ∷ bs) ≡ b ∷ take_while is_ascii_digit bs
yes b bs h = take_while-cons is_ascii_digit b bs ∙ ap (λ t. cond t (b ∷ take_while is_ascii_digit bs) []) h

no : (b : ℕ) (bs : List ℕ) → is_ascii_digit b ≡ false → take_while is_ascii_digit (b ∷ bs) ≡ []
no b bs h = take_while-cons is_ascii_digit b bs ∙ ap (λ t. cond t (b ∷ take_while is_ascii_digit bs) []) h

pub digits_taken : (ds rest : List ℕ) → AreDigits ds → NoDigit rest → take_while is_ascii_digit (ds ++ rest) ≡ ds
digits_taken [] [] a b = refl
digits_taken [] (c ∷ cs) a b = no c cs b
digits_taken (d ∷ ds) rest a b = yes d (ds ++ rest) a.0 ∙ ap (λ l. d ∷ l) (digits_taken ds rest a.1 b)

-- what stands at the front: digits, and what follows
pub record Front (bs : List ℕ) : Type 0 where
  pub digits : List ℕ
  pub rest : List ℕ
  pub are : AreDigits digits
  pub ends : NoDigit rest
  pub split : bs ≡ digits ++ rest

pub front : (bs : List ℕ) → Front bs
front [] = record { digits = []; rest = []; are = tt; ends = tt; split = refl }
front (b ∷ bs) = ⊎_elim
    (λ (e : is_ascii_digit b ≡ true). let f = front bs in record { digits = b ∷ f.digits; rest = f.rest; are = (e, f.are); ends = f.ends; split = ap (λ l. b ∷ l) f.split })
    (λ (e : is_ascii_digit b ≡ false). record { digits = []; rest = b ∷ bs; are = tt; ends = e; split = refl })
    (cases_Bool (is_ascii_digit b))

front_taken : (bs : List ℕ) (f : Front bs) → take_while is_ascii_digit bs ≡ f.digits
front_taken bs f = ap (take_while is_ascii_digit) f.split ∙ digits_taken f.digits f.rest f.are f.ends

take_front : (xs ys : List ℕ) → take (length xs) (xs ++ ys) ≡ xs
take_front [] ys = refl
take_front (x ∷ xs) ys = ap (λ l. x ∷ l) (take_front xs ys)

drop_front : (xs ys : List ℕ) → drop (length xs) (xs ++ ys) ≡ ys
drop_front [] ys = refl
drop_front (x ∷ xs) ys = drop_front xs ys

-- the digits that are counted, and the rest
pub counted : (bs digits rest : List ℕ) (n : ℕ) → n ≡ length (take_while is_ascii_digit bs) → digits ≡ take n bs → rest ≡ drop n bs → AreDigits digits × NoDigit rest × (bs ≡ digits ++ rest)
counted bs digits rest n e d r =
    let f = front bs in
    let m : n ≡ length f.digits = e ∙ ap length (front_taken bs f) in
    let a : digits ≡ f.digits = d ∙ ap (λ k. take k bs) m ∙ ap (take (length f.digits)) f.split ∙ take_front f.digits f.rest in
    let b : rest ≡ f.rest = r ∙ ap (λ k. drop k bs) m ∙ ap (drop (length f.digits)) f.split ∙ drop_front f.digits f.rest in
    (subst AreDigits (sym a) f.are, subst NoDigit (sym b) f.ends, f.split ∙ ap (λ l. l ++ f.rest) (sym a) ∙ ap (λ l. digits ++ l) (sym b))

-- ---- numerals

digit_bounds : (c : ℕ) → is_ascii_digit c ≡ true → (48 ≤ c) × (c < 58)
digit_bounds c h =
    let w = and_parts (nat_le 48 c) (nat_le c 57) h in
    let a = leb-true 48 c w.0 in
    let b = leb-true c 57 w.1 in
    (a, omega arith)

is_digit_from : (c : ℕ) → 48 ≤ c → c < 58 → is_ascii_digit c ≡ true
is_digit_from c a b = and_from (nat_le 48 c) (nat_le c 57) (le-leb 48 c a) (le-leb c 57 (omega arith))

glyphs : (ds : List ℕ) → AllBelowBase 10 ds → AreDigits (map (λ d. 48 + d) ds)
glyphs [] h = tt
glyphs (d ∷ ds) h = (is_digit_from (48 + d) (omega arith) (let b = h.0 in omega arith), glyphs ds h.1)

numeral_zero : (n : ℕ) → n ≡ 0 → numeral n ≡ 48 ∷ []
numeral_zero n e = subst (λ (k : ℕ). numeral k ≡ 48 ∷ []) (sym e) refl

numeral_some : (n : ℕ) → n ≢ 0 → numeral n ≡ map (λ d. 48 + d) (digits_of 10 n)
numeral_some n f = ap (λ b. cond b (codes "0") (map (λ d. 48 + d) (digits_of 10 n))) (ne_eqb n 0 f)

pub digits_are : (n : ℕ) → AreDigits (numeral n)
digits_are n = ⊎_elim
    (λ e. subst AreDigits (sym (numeral_zero n e)) (refl, tt))
    (λ f. subst AreDigits (sym (numeral_some n f)) (glyphs (digits_of 10 n) (all_below_base_digits_of 10 n (omega arith))))
    (cases_eq n 0)

unglyphed : (ds : List ℕ) → map (λ c. c - 48) (map (λ d. 48 + d) ds) ≡ ds
unglyphed [] = refl
unglyphed (d ∷ ds) = ap (λ x. x ∷ map (λ c. c - 48) (map (λ d. 48 + d) ds)) (let e : 48 + d - 48 ≡ d = omega arith in e) ∙ ap (λ l. d ∷ l) (unglyphed ds)

pub value_of_numeral : (n : ℕ) → value_of (numeral n) ≡ n
value_of_numeral n = ⊎_elim
    (λ e. ap value_of (numeral_zero n e) ∙ sym e)
    (λ f. ap value_of (numeral_some n f) ∙ ap (number_from_digits 10) (unglyphed (digits_of 10 n)) ∙ number_digits_of 10 n (omega arith))
    (cases_eq n 0)

split : (xs ys u v : List ℕ) → AreDigits xs → AreDigits ys → NoDigit u → NoDigit v → xs ++ u ≡ ys ++ v → (xs ≡ ys) × (u ≡ v)
split xs ys u v a b c d e =
    let h : xs ≡ ys = sym (digits_taken xs u a c) ∙ ap (take_while is_ascii_digit) e ∙ digits_taken ys v b d in
    (h, sym (drop_front xs u) ∙ ap (drop (length xs)) e ∙ ap (λ l. drop (length l) (ys ++ v)) h ∙ drop_front ys v)

pub numeral_split : (m n : ℕ) (u v : List ℕ) → NoDigit u → NoDigit v → numeral m ++ u ≡ numeral n ++ v → (m ≡ n) × (u ≡ v)
numeral_split m n u v a b e =
    let w = split (numeral m) (numeral n) u v (digits_are m) (digits_are n) a b e in
    (sym (value_of_numeral m) ∙ ap value_of w.0 ∙ value_of_numeral n, w.1)

pub same_numeral : (m n : ℕ) → numeral m ≡ numeral n → m ≡ n
same_numeral m n e = sym (value_of_numeral m) ∙ ap value_of e ∙ value_of_numeral n

-- digits behind a number that is not 0
digits_after : (m : ℕ) (ds : List ℕ) → 0 < m → AllBelowBase 10 ds → digits_of 10 (number_from_digits_after 10 m ds) ≡ digits_of 10 m ++ ds
digits_after m [] h b = sym (append-nil (digits_of 10 m))
digits_after m (d ∷ ds) h b =
    let k : ℕ = m * 10 + d in
    let below : d < 10 = b.0 in
    let q : k / 10 ≡ m = omega arith in
    let r : k % 10 ≡ d = omega arith in
    digits_after k ds (omega arith) b.1
    ∙ ap (λ l. l ++ ds) (digits_of_step 10 k (omega arith) (omega arith))
    ∙ append_assoc (digits_of 10 (k / 10)) (k % 10 ∷ []) ds
    ∙ ap (λ x. digits_of 10 x ++ (k % 10 ∷ ds)) q
    ∙ ap (λ x. digits_of 10 m ++ (x ∷ ds)) r

one_digit : (d : ℕ) → 0 < d → d < 10 → digits_of 10 d ≡ d ∷ []
one_digit d a b =
    let q : d / 10 ≡ 0 = omega arith in
    let r : d % 10 ≡ d = omega arith in
    digits_of_step 10 d (omega arith) a ∙ ap (λ x. digits_of 10 x ++ (d % 10 ∷ [])) q ∙ ap (λ x. x ∷ []) r

unread : (cs : List ℕ) → AreDigits cs → AllBelowBase 10 (map (λ c. c - 48) cs) × (map (λ d. 48 + d) (map (λ c. c - 48) cs) ≡ cs)
unread [] a = (tt, refl)
unread (c ∷ cs) a =
    let w = digit_bounds c a.0 in
    let l = w.0 in
    let h = w.1 in
    let r = unread cs a.1 in
    let e : 48 + (c - 48) ≡ c = omega arith in
    ((omega arith, r.0), ap (λ x. x ∷ map (λ d. 48 + d) (map (λ c. c - 48) cs)) e ∙ ap (λ x. c ∷ x) r.1)

numeral_of : (c : ℕ) (cs : List ℕ) → AreDigits (c ∷ cs) → c ≢ 48 → c ∷ cs ≡ numeral (value_of (c ∷ cs))
numeral_of c cs a f =
    let w = digit_bounds c a.0 in
    let l = w.0 in
    let h = w.1 in
    let d : ℕ = c - 48 in
    let ds : List ℕ = map (λ c. c - 48) cs in
    let some : 0 < d = omega arith in
    let small : d < 10 = omega arith in
    let n : ℕ = number_from_digits_after 10 d ds in
    let big : d ≤ n = number_after_ge 10 d ds (omega arith) in
    let z : 0 * 10 + d ≡ d = omega arith in
    let v : value_of (c ∷ cs) ≡ n = ap (λ x. number_from_digits_after 10 x ds) z in
    let r = unread (c ∷ cs) a in
    sym (ap numeral v ∙ numeral_some n (λ q. omega arith)
    ∙ ap (map (λ x. 48 + x)) (digits_after d ds some r.0.1 ∙ ap (λ x. x ++ ds) (one_digit d some small)) ∙ r.1)

numeral_of_digits : (ds : List ℕ) → AreDigits ds → is_numeral ds ≡ true → (n : ℕ) × (ds ≡ numeral n)
numeral_of_digits [] a h = absurd (false≢true h)
numeral_of_digits (c ∷ []) a h = ⊎_elim
    (λ (e : c ≡ 48). (0, ap (λ (x : ℕ). x ∷ []) e))
    (λ (f : c ≢ 48). (value_of (c ∷ []), numeral_of c [] a f))
    (cases_eq c 48)
numeral_of_digits (c ∷ d ∷ ds) a h =
    (value_of (c ∷ d ∷ ds), numeral_of c (d ∷ ds) a (λ q. eqb-false c 48 (not-true (c == 48) h) q))

leads : (ds : List ℕ) → 0 < get_or ds 0 0 → is_numeral (map (λ d. 48 + d) ds) ≡ true
leads [] h = absurd (omega arith)
leads (d ∷ []) h = refl
leads (d ∷ e ∷ ds) h = ap not (ne_eqb (48 + d) 48 (λ q. omega arith))

numeral_is : (n : ℕ) → is_numeral (numeral n) ≡ true
numeral_is n = ⊎_elim
    (λ e. ap is_numeral (numeral_zero n e))
    (λ f. ap is_numeral (numeral_some n f) ∙ leads (digits_of 10 n) (first_digits_of 10 n (omega arith) (omega arith)))
    (cases_eq n 0)

pub has_number : (bs ds rest : List ℕ) → AreDigits ds → NoDigit rest → bs ≡ ds ++ rest → is_numeral ds ≡ true → HasNumber bs ds rest
has_number bs ds rest a b e h = let w = numeral_of_digits ds a h in record { number = w.0; written = w.1; split = e; ends = b }

pub has_none : (bs ds rest : List ℕ) → AreDigits ds → NoDigit rest → bs ≡ ds ++ rest → is_numeral ds ≡ false → HasNoNumber bs
has_none bs ds rest a b e h n u c d =
    let w = split ds (numeral n) rest u a (digits_are n) b c (sym e ∙ d) in
    true≢false (sym (numeral_is n) ∙ ap is_numeral (sym w.0) ∙ h)

pub marked : (mark : ℕ) (bs behind ds rest : List ℕ) → bs ≡ mark ∷ behind → HasNumber behind ds rest → HasMarked mark bs ds rest
marked mark bs behind ds rest e h = record { number = h.number; written = h.written; split = e ∙ ap (λ l. mark ∷ l) h.split; ends = h.ends }

pub marked_none : (mark : ℕ) (bs behind : List ℕ) → bs ≡ mark ∷ behind → HasNoNumber behind → HasNoMarked mark bs
marked_none mark bs behind e h n rest d q = h n rest d (ap (drop 1) (sym e ∙ q))

pub other_mark : (mark c : ℕ) (bs behind : List ℕ) → bs ≡ c ∷ behind → c ≢ mark → HasNoMarked mark bs
other_mark mark c bs behind e f n rest d q = f (ap (λ l. get_or l 0 0) (sym e ∙ q))

-- ---- values

pub value_more : (ds : List ℕ) (i : ℕ) → i < length ds → value_of (take (i + 1) ds) ≡ value_of (take i ds) * 10 + (get_or ds i 0 - 48)
value_more ds i l =
    let f : ℕ → ℕ = λ c. c - 48 in
    ap value_of (take_more ds i 0 l)
    ∙ ap (number_from_digits 10) (map-append f (take i ds) (get_or ds i 0 ∷ []))
    ∙ number_push 10 (map f (take i ds)) (get_or ds i 0 - 48)

pub clipped_more : (v d : ℕ) → min (min (clipped v * 10) (2 ^ 32 - 1) + d) (2 ^ 32 - 1) ≡ clipped (v * 10 + d)
clipped_more v d = omega arith

by_rank : (q : Ordering) (m n x y : ℕ) → 48 ≤ x → 48 ≤ y → m ≡ n → MatchOrdering q (x < y) (x ≡ y) (y < x)
    → MatchOrdering q (m * 10 + (x - 48) < n * 10 + (y - 48)) (m * 10 + (x - 48) ≡ n * 10 + (y - 48)) (n * 10 + (y - 48) < m * 10 + (x - 48))
by_rank Less m n x y a b e h = omega arith
by_rank Equal m n x y a b e h = omega arith
by_rank Greater m n x y a b e h = omega arith

pub less_more : (o p : Ordering) (m n x y : ℕ) → is_ascii_digit x ≡ true → is_ascii_digit y ≡ true → MatchOrdering o (m < n) (m ≡ n) (n < m)
    → p ≡ ordering_then o (nat_cmp x y) → MatchOrdering p (m * 10 + (x - 48) < n * 10 + (y - 48)) (m * 10 + (x - 48) ≡ n * 10 + (y - 48)) (n * 10 + (y - 48) < m * 10 + (x - 48))
less_more Less p m n x y a b h e =
    let u = digit_bounds x a in
    let v = digit_bounds y b in
    let u0 = u.0 in let u1 = u.1 in let v0 = v.0 in let v1 = v.1 in
    subst (λ q. MatchOrdering q (m * 10 + (x - 48) < n * 10 + (y - 48)) (m * 10 + (x - 48) ≡ n * 10 + (y - 48)) (n * 10 + (y - 48) < m * 10 + (x - 48))) (sym e)
    (let k : m * 10 + (x - 48) < n * 10 + (y - 48) = omega arith in k)
less_more Greater p m n x y a b h e =
    let u = digit_bounds x a in
    let v = digit_bounds y b in
    let u0 = u.0 in let u1 = u.1 in let v0 = v.0 in let v1 = v.1 in
    subst (λ q. MatchOrdering q (m * 10 + (x - 48) < n * 10 + (y - 48)) (m * 10 + (x - 48) ≡ n * 10 + (y - 48)) (n * 10 + (y - 48) < m * 10 + (x - 48))) (sym e)
    (let k : n * 10 + (y - 48) < m * 10 + (x - 48) = omega arith in k)
less_more Equal p m n x y a b h e =
    let u = digit_bounds x a in
    let v = digit_bounds y b in
    let u0 = u.0 in let v0 = v.0 in
    subst (λ q. MatchOrdering q (m * 10 + (x - 48) < n * 10 + (y - 48)) (m * 10 + (x - 48) ≡ n * 10 + (y - 48)) (n * 10 + (y - 48) < m * 10 + (x - 48))) (sym e)
    (by_rank (nat_cmp x y) m n x y u0 v0 h (ranks x y))

pub digit_at : (ds : List ℕ) (i : ℕ) → i < length ds → AreDigits ds → is_ascii_digit (get_or ds i 0) ≡ true
digit_at [] i l a = absurd (omega arith)
digit_at (d ∷ ds) zero l a = a.0
digit_at (d ∷ ds) (suc i) l a = digit_at ds i (omega arith) a.1

-- ---- numbers in order

-- a number is below the power of its count of digits
below_power : (n : ℕ) → n < 10 ^ length (numeral n)
below_power n =
    let w = unread (numeral n) (digits_are n) in
    let b = number_lt 10 (map (λ c. c - 48) (numeral n)) w.0 in
    let e = value_of_numeral n in
    let l = length-map (numeral n) (λ c. c - 48) in
    subst (λ (k : ℕ). n < 10 ^ k) l (subst (λ (k : ℕ). k < 10 ^ length (map (λ c. c - 48) (numeral n))) e b)

few_digits : (n k : ℕ) → 0 < k → n < 10 ^ k → length (numeral n) ≤ k
few_digits n k s h = ⊎_elim
    (λ e. let l = ap length (numeral_zero n e) in omega arith)
    (λ f.
    let l = ap length (numeral_some n f) in
    let m = length-map (digits_of 10 n) (λ d. 48 + d) in
    let q = length-digits_of-le 10 k n (omega arith) h in omega arith)
    (cases_eq n 0)

no_digits_false : (ds : List ℕ) → length ds ≤ 0 → is_numeral ds ≡ true → ⊥
no_digits_false [] l h = false≢true h
no_digits_false (d ∷ ds) l h = omega arith

pub some_digits : (n : ℕ) → 0 < length (numeral n)
some_digits n = ⊎_elim
    (λ (q : 0 < length (numeral n)). q)
    (λ (q : length (numeral n) ≤ 0). absurd (no_digits_false (numeral n) q (numeral_is n)))
    (cases_lt 0 (length (numeral n)))

-- fewer digits, a lower number
pub shorter : (m n : ℕ) → length (numeral m) < length (numeral n) → m < n
shorter m n l = ⊎_elim
    (λ (q : m < n). q)
    (λ (q : n ≤ m).
    let a = below_power m in
    let b = few_digits n (length (numeral m)) (some_digits m) (omega arith) in absurd (omega arith))
    (cases_lt m n)

pub less_step : (o p : Ordering) (xs ys : List ℕ) (i : ℕ) → i < length xs → i < length ys → AreDigits xs → AreDigits ys
    → MatchOrdering o (value_of (take i xs) < value_of (take i ys)) (value_of (take i xs) ≡ value_of (take i ys)) (value_of (take i ys) < value_of (take i xs))
    → p ≡ ordering_then o (nat_cmp (get_or xs i 0) (get_or ys i 0))
    → MatchOrdering p (value_of (take (i + 1) xs) < value_of (take (i + 1) ys)) (value_of (take (i + 1) xs) ≡ value_of (take (i + 1) ys)) (value_of (take (i + 1) ys) < value_of (take (i + 1) xs))
less_step o p xs ys i l k a b h e =
    let m : ℕ = value_of (take i xs) in
    let n : ℕ = value_of (take i ys) in
    let x : ℕ = get_or xs i 0 in
    let y : ℕ = get_or ys i 0 in
    subst (λ (u : ℕ). MatchOrdering p (u < value_of (take (i + 1) ys)) (u ≡ value_of (take (i + 1) ys)) (value_of (take (i + 1) ys) < u)) (sym (value_more xs i l))
    (subst (λ (v : ℕ). MatchOrdering p (m * 10 + (x - 48) < v) (m * 10 + (x - 48) ≡ v) (v < m * 10 + (x - 48))) (sym (value_more ys i k))
    (less_more o p m n x y (digit_at xs i l a) (digit_at ys i k b) h e))

-- ---- above the last one

pub above_same : (last ds : List ℕ) (b : Bool) → length last ≡ length ds → (AreDigits last → AreDigits ds → (IsTrue b ↔ (value_of last < value_of ds)))
    → (low n : ℕ) → IsLast last low → ds ≡ numeral n → (IsTrue b ↔ (low ≤ n))
above_same [] ds b e h low n l w = absurd (let s = some_digits n in let q = ap length w in omega arith)
above_same (d ∷ last) ds b e h low n l w =
    let i = h (subst AreDigits (sym l.1) (digits_are l.0)) (subst AreDigits (sym w) (digits_are n)) in
    let x : value_of (d ∷ last) ≡ l.0 = ap value_of l.1 ∙ value_of_numeral l.0 in
    let y : value_of ds ≡ n = ap value_of w ∙ value_of_numeral n in
    let z : low ≡ l.0 + 1 = l.2 in
    (λ t. let q = i.0 t in omega arith, λ q. i.1 (omega arith))

not_more : (d : ℕ) (last ds : List ℕ) (m n : ℕ) → length (d ∷ last) ≢ length ds → length (d ∷ last) ≡ length (numeral m) → length ds ≡ length (numeral n) → length ds ≤ length (d ∷ last)
    → length (numeral n) < length (numeral m)
not_more d last ds m n f a b s = omega arith

pub above_other : (last ds : List ℕ) → length last ≢ length ds → (low n : ℕ) → IsLast last low → ds ≡ numeral n → (IsTrue (nat_lt (length last) (length ds)) ↔ (low ≤ n))
above_other [] ds f low n l w = (λ t. omega arith, λ q. lt-ltb 0 (length ds) (let s = some_digits n in let k = ap length w in omega arith))
above_other (d ∷ last) ds f low n l w =
    let z : low ≡ l.0 + 1 = l.2 in
    let a : length (d ∷ last) ≡ length (numeral l.0) = ap length l.1 in
    let b : length ds ≡ length (numeral n) = ap length w in (
      λ t. let k = ltb-true (length (d ∷ last)) (length ds) t in let s = shorter l.0 n (omega arith) in omega arith,
      λ q. lt-ltb (length (d ∷ last)) (length ds) (⊎_elim
          (λ (s : length (d ∷ last) < length ds). s)
          (λ (s : length ds ≤ length (d ∷ last)). absurd (let k = shorter n l.0 (not_more d last ds l.0 n f a b s) in omega arith))
          (cases_lt (length (d ∷ last)) (length ds))),
    )
