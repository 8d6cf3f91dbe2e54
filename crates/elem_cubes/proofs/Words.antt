-- Coordinates read two at a time: the list of the words, and that their order is that of the coordinates.
use Rattle.std.proofs.Common.{◌≡◌, ℕ, zero, suc, ◌+◌, ◌-◌, ◌*◌, ◌<◌, ◌≤◌, refl, sym, ap, ◌∙◌, arith, List, [], ◌∷◌, ◌++◌, length, take, get_or, set, replicate, append_assoc, length-append, length-take, Bool, true, IsTrue, ◌&&◌}
use Rattle.std.specs.Prelude.{ℤ, pos, negsuc, ◌+ℤ◌, ◌<ℤ◌, ◌≤ℤ◌, int_le, nat_le}
use Rattle.std.specs.List.{list_all}
use Rattle.std.specs.Cmp.{int_cmp_is, tied_itself}
use Rattle.std.specs.Cmp.Lexicographic.{slice_cmp}
use Rattle.std.specs.declared.cmp.Ordering.{Ordering}
use Rattle.std.specs.declared.cmp.Ordering.TheVariants.{Less, Equal, Greater}
use Rattle.std.specs.Ordering.{int_cmp, ordering_then}
use Rattle.std.proofs.Math.Seq.{set-append_seam}
use Rattle.std.proofs.lemmas.Cmp.{int_ranked, by_ranked, lists_total, int_cmp_total}
use Rattle.std.proofs.lemmas.Int.{ints}
use Rattle.std.proofs.lemmas.List.{take_more, length-replicate}
use Rattle.std.proofs.lemmas.Bool.{leb-true}
use Rattle.elem_cubes.specs.declared.range.TheConstants.{LOW, HIGH, MAX_EMBEDDING}
use Rattle.elem_cubes.specs.declared.packed.TheConstants.{PADDING, WORDS}
use Rattle.elem_cubes.specs.Corners.{is_end, is_corner, corner_cmp}
use Rattle.elem_cubes.specs.Packed.{padded, word, words_of, KeepsCorner}
use Rattle.elem_cubes.proofs.Conjunctions.{both, left, right}

-- ---- the list of the words

pub words_push : (k : ℕ) (xs : List ℤ) (a b : ℤ) → length xs ≡ 2 * k → words_of (xs ++ a ∷ b ∷ []) ≡ words_of xs ++ word a b ∷ []
words_push k [] a b h = refl
words_push k (x ∷ []) a b h = absurd (omega arith)
words_push zero (x ∷ y ∷ xs) a b h = absurd (omega arith)
words_push (suc k) (x ∷ y ∷ xs) a b h = ap (λ ws. word x y ∷ ws) (words_push k xs a b (omega arith))

pub length-words : (k : ℕ) (xs : List ℤ) → length xs ≡ 2 * k → length (words_of xs) ≡ k
length-words zero [] h = refl
length-words (suc k) [] h = absurd (omega arith)
length-words k (x ∷ []) h = absurd (omega arith)
length-words zero (x ∷ y ∷ xs) h = absurd (omega arith)
length-words (suc k) (x ∷ y ∷ xs) h = ap suc (length-words k xs (omega arith))

-- one more word
pub words_step : (n : ℕ) (ends ws : List ℤ) (i : ℕ) (w : ℤ) → i < n → 2 * n ≤ length ends → ws ≡ words_of (take (2 * i) ends) ++ replicate (n - i) (pos 0)
    → w ≡ word (get_or ends (2 * i) (pos 0)) (get_or ends (2 * i + 1) (pos 0)) → set ws i w ≡ words_of (take (2 * (i + 1)) ends) ++ replicate (n - (i + 1)) (pos 0)
words_step n ends ws i w small long e f =
    let a = get_or ends (2 * i) (pos 0) in
    let b = get_or ends (2 * i + 1) (pos 0) in
    let front = take (2 * i) ends in
    let rest : List ℤ = replicate (n - (i + 1)) (pos 0) in
    let t : take (2 * i + 1 + 1) ends ≡ front ++ a ∷ b ∷ [] =
    take_more ends (2 * i + 1) (pos 0) (omega arith) ∙ ap (λ xs. xs ++ b ∷ []) (take_more ends (2 * i) (pos 0) (omega arith)) ∙ append_assoc front (a ∷ []) (b ∷ []) in
    let l : length front ≡ 2 * i = omega (arith, length-take (2 * i) ends) in
    let m : length (words_of front) ≡ i = length-words i front l in
    let s : replicate (n - i) (pos 0) ≡ pos 0 ∷ rest = let k : n - i ≡ suc (n - (i + 1)) = omega arith in ap (λ j. replicate j (pos 0)) k in
    ap (λ us. set us i w) (e ∙ ap (λ us. words_of front ++ us) s)
    ∙ ap (λ j. set (words_of front ++ pos 0 ∷ rest) j w) (sym m)
    ∙ set-append_seam (words_of front) (pos 0) rest w
    ∙ ap (λ v. words_of front ++ v ∷ rest) f
    ∙ sym (append_assoc (words_of front) (word a b ∷ []) rest)
    ∙ ap (λ us. us ++ rest) (sym (words_push i front a b l))
    ∙ ap (λ us. words_of us ++ rest) (sym t)
    ∙ ap (λ j. words_of (take j ends) ++ rest) (let k : 2 * i + 1 + 1 ≡ 2 * (i + 1) = omega arith in k)

-- one more coordinate before the padding
pub pad_step : (most : ℕ) (xs ends : List ℤ) (i : ℕ) (x : ℤ) → i < length xs → length xs ≤ most → ends ≡ take i xs ++ replicate (most - i) PADDING
    → x ≡ get_or xs i (pos 0) → set ends i x ≡ take (i + 1) xs ++ replicate (most - (i + 1)) PADDING
pad_step most xs ends i x small few e f =
    let front = take i xs in
    let rest : List ℤ = replicate (most - (i + 1)) PADDING in
    let m : length front ≡ i = omega (arith, length-take i xs) in
    let s : replicate (most - i) PADDING ≡ PADDING ∷ rest = let k : most - i ≡ suc (most - (i + 1)) = omega arith in ap (λ j. replicate j PADDING) k in
    ap (λ us. set us i x) (e ∙ ap (λ us. front ++ us) s)
    ∙ ap (λ j. set (front ++ PADDING ∷ rest) j x) (sym m)
    ∙ set-append_seam front PADDING rest x
    ∙ ap (λ v. front ++ v ∷ rest) f
    ∙ sym (append_assoc front (get_or xs i (pos 0) ∷ []) rest)
    ∙ ap (λ us. us ++ rest) (sym (take_more xs i (pos 0) small))

-- ---- the order of the words

-- a number of 32 bits with a sign
abbrev pub is_short : ℤ → Bool
is_short z = int_le PADDING z && int_le z (pos 2147483647)

pub record Short (z : ℤ) : Type 0 where
  pub least : PADDING ≤ℤ z
  pub greatest : z ≤ℤ pos 2147483647

short_from : (z : ℤ) → int_le PADDING z ≡ true → int_le z (pos 2147483647) ≡ true → Short z
short_from z h k = record { least = grind (arith, ints); greatest = grind (arith, ints) }

short : (z : ℤ) → IsTrue (is_short z) → Short z
short z h = short_from z (left (int_le PADDING z) (int_le z (pos 2147483647)) h) (right (int_le PADDING z) (int_le z (pos 2147483647)) h)

pub word_cmp : (a b c d : ℤ) → Short b → Short d → int_cmp (word a b) (word c d) ≡ ordering_then (int_cmp a c) (int_cmp b d)
word_cmp a b c d s t =
    let b1 = s.least in let b2 = s.greatest in let d1 = t.least in let d2 = t.greatest in
    by_ranked (a <ℤ c) (a ≡ c) (c <ℤ a) (int_cmp a c) (int_ranked a c (int_cmp a c) refl)
    (λ e p. sym (int_cmp_is (word a b) (word c d) Less (omega (arith, ints))) ∙ sym (ap (λ o. ordering_then o (int_cmp b d)) e))
    (λ e p. by_ranked (b <ℤ d) (b ≡ d) (d <ℤ b) (int_cmp b d) (int_ranked b d (int_cmp b d) refl)
    (λ f q. sym (int_cmp_is (word a b) (word c d) Less (omega (arith, ints))) ∙ sym f)
    (λ f q. sym (int_cmp_is (word a b) (word c d) Equal (λ i. word (p i) (q i))) ∙ sym f)
    (λ f q. sym (int_cmp_is (word a b) (word c d) Greater (omega (arith, ints))) ∙ sym f)
    ∙ sym (ap (λ o. ordering_then o (int_cmp b d)) e))
    (λ e p. sym (int_cmp_is (word a b) (word c d) Greater (omega (arith, ints))) ∙ sym (ap (λ o. ordering_then o (int_cmp b d)) e))

then_assoc : (o p r : Ordering) → ordering_then (ordering_then o p) r ≡ ordering_then o (ordering_then p r)
then_assoc Less p r = refl
then_assoc Equal p r = refl
then_assoc Greater p r = refl

pub words_cmp : (k : ℕ) (xs ys : List ℤ) → length xs ≡ 2 * k → length ys ≡ 2 * k → IsTrue (list_all is_short xs) → IsTrue (list_all is_short ys)
    → slice_cmp int_cmp (words_of xs) (words_of ys) ≡ slice_cmp int_cmp xs ys
words_cmp zero [] [] h k s t = refl
words_cmp (suc n) [] ys h k s t = absurd (omega arith)
words_cmp zero (x ∷ xs) ys h k s t = absurd (omega arith)
words_cmp zero [] (y ∷ ys) h k s t = absurd (omega arith)
words_cmp (suc n) (x ∷ xs) [] h k s t = absurd (omega arith)
words_cmp (suc n) (a ∷ []) (c ∷ ys) h k s t = absurd (omega arith)
words_cmp (suc n) (a ∷ b ∷ xs) (c ∷ []) h k s t = absurd (omega arith)
words_cmp (suc n) (a ∷ b ∷ xs) (c ∷ d ∷ ys) h k s t =
    let s1 = right (is_short a) (is_short b && list_all is_short xs) s in
    let t1 = right (is_short c) (is_short d && list_all is_short ys) t in
    ap (λ o. ordering_then o (slice_cmp int_cmp (words_of xs) (words_of ys))) (word_cmp a b c d (short b (left (is_short b) (list_all is_short xs) s1)) (short d (left (is_short d) (list_all is_short ys) t1)))
    ∙ ap (λ o. ordering_then (ordering_then (int_cmp a c) (int_cmp b d)) o) (words_cmp n xs ys (omega arith) (omega arith) (right (is_short b) (list_all is_short xs) s1) (right (is_short d) (list_all is_short ys) t1))
    ∙ then_assoc (int_cmp a c) (int_cmp b d) (slice_cmp int_cmp xs ys)

-- ---- the padding

pub record Above (z : ℤ) : Type 0 where
  pub above : PADDING <ℤ z

above_from : (z : ℤ) → int_le (LOW +ℤ negsuc 0) z ≡ true → Above z
above_from z h = record { above = grind (arith, ints) }

above_padding : (z : ℤ) → IsTrue (is_end z) → Above z
above_padding z h = above_from z (left (int_le (LOW +ℤ negsuc 0) z) (int_le z (HIGH +ℤ pos 1)) h)

short_from_end : (z : ℤ) → int_le (LOW +ℤ negsuc 0) z ≡ true → int_le z (HIGH +ℤ pos 1) ≡ true → IsTrue (is_short z)
short_from_end z h k = both (int_le PADDING z) (int_le z (pos 2147483647)) (grind (arith, ints)) (grind (arith, ints))

pub short_end : (z : ℤ) → IsTrue (is_end z) → IsTrue (is_short z)
short_end z h = short_from_end z (left (int_le (LOW +ℤ negsuc 0) z) (int_le z (HIGH +ℤ pos 1)) h) (right (int_le (LOW +ℤ negsuc 0) z) (int_le z (HIGH +ℤ pos 1)) h)

short_padding : (k : ℕ) → IsTrue (list_all is_short (replicate k PADDING))
short_padding zero = refl
short_padding (suc k) = short_padding k

short_padded : (xs : List ℤ) (k : ℕ) → IsTrue (list_all is_end xs) → IsTrue (list_all is_short (xs ++ replicate k PADDING))
short_padded [] k h = short_padding k
short_padded (x ∷ xs) k h = both (is_short x) _ (short_end x (left (is_end x) (list_all is_end xs) h)) (short_padded xs k (right (is_end x) (list_all is_end xs) h))

pad_cmp : (k j : ℕ) (xs ys : List ℤ) → length xs + k ≡ length ys + j → IsTrue (list_all is_end xs) → IsTrue (list_all is_end ys)
    → slice_cmp int_cmp (xs ++ replicate k PADDING) (ys ++ replicate j PADDING) ≡ slice_cmp int_cmp xs ys
pad_cmp k j [] [] h s t = let e : k ≡ j = omega arith in ap (λ n. slice_cmp int_cmp (replicate n PADDING) (replicate j PADDING)) e ∙ tied_itself (lists_total int_cmp_total) (replicate j PADDING)
pad_cmp zero j [] (y ∷ ys) h s t = absurd (omega arith)
pad_cmp (suc k) j [] (y ∷ ys) h s t = ap (λ o. ordering_then o (slice_cmp int_cmp (replicate k PADDING) (ys ++ replicate j PADDING))) (sym (int_cmp_is PADDING y Less (above_padding y (left (is_end y) (list_all is_end ys) t)).above))
pad_cmp k zero (x ∷ xs) [] h s t = absurd (omega arith)
pad_cmp k (suc j) (x ∷ xs) [] h s t = ap (λ o. ordering_then o (slice_cmp int_cmp (xs ++ replicate k PADDING) (replicate j PADDING))) (sym (int_cmp_is x PADDING Greater (above_padding x (left (is_end x) (list_all is_end xs) s)).above))
pad_cmp k j (x ∷ xs) (y ∷ ys) h s t = ap (ordering_then (int_cmp x y)) (pad_cmp k j xs ys (omega arith) (right (is_end x) (list_all is_end xs) s) (right (is_end y) (list_all is_end ys) t))

pub ends_of_corner : (xs : List ℤ) → IsTrue (is_corner xs) → IsTrue (list_all is_end xs)
ends_of_corner xs h = right (nat_le 1 (length xs) && nat_le (length xs) MAX_EMBEDDING) (list_all is_end xs) h

few_ends : (xs : List ℤ) → IsTrue (is_corner xs) → length xs ≤ MAX_EMBEDDING
few_ends xs h = leb-true (length xs) MAX_EMBEDDING (right (nat_le 1 (length xs)) (nat_le (length xs) MAX_EMBEDDING) (left (nat_le 1 (length xs) && nat_le (length xs) MAX_EMBEDDING) (list_all is_end xs) h))

length-padded : (xs : List ℤ) → length xs ≤ MAX_EMBEDDING → length (padded MAX_EMBEDDING xs) ≡ 2 * WORDS
length-padded xs h = length-append xs (replicate (MAX_EMBEDDING - length xs) PADDING) ∙ ap (λ n. length xs + n) (length-replicate (MAX_EMBEDDING - length xs) PADDING) ∙ omega arith

-- the order of two corners is that of their words
pub corner_words : (ends : List ℤ) (len : ℕ) (others : List ℤ) (other : ℕ) → KeepsCorner ends len → KeepsCorner others other
    → slice_cmp int_cmp (words_of ends) (words_of others) ≡ corner_cmp (take len ends) (take other others)
corner_words ends len others other k l =
    let xs = take len ends in
    let ys = take other others in
    let a = ends_of_corner xs k.corner in
    let b = ends_of_corner ys l.corner in
    ap (λ es. slice_cmp int_cmp (words_of es) (words_of others)) k.rest
    ∙ ap (λ es. slice_cmp int_cmp (words_of (padded MAX_EMBEDDING xs)) (words_of es)) l.rest
    ∙ words_cmp WORDS (padded MAX_EMBEDDING xs) (padded MAX_EMBEDDING ys) (length-padded xs (few_ends xs k.corner)) (length-padded ys (few_ends ys l.corner))
    (short_padded xs (MAX_EMBEDDING - length xs) a) (short_padded ys (MAX_EMBEDDING - length ys) b)
    ∙ pad_cmp (MAX_EMBEDDING - length xs) (MAX_EMBEDDING - length ys) xs ys (let s = few_ends xs k.corner in let t = few_ends ys l.corner in omega arith) a b
