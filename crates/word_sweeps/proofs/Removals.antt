-- One change of one word is one removal
use Rattle.std.proofs.Common.{◌≡◌, ◌≢◌, ℕ, zero, suc, ◌+◌, ◌*◌, ◌/◌, ◌^◌, ◌<◌, ◌≤◌, refl, sym, ap, ◌∙◌, arith, ⊎_elim, List, [], ◌∷◌, length, get_or, slice_set, false, cond}
use Rattle.std.proofs.lemmas.Bool.{cases_eq}
use Rattle.std.proofs.lemmas.List.{get_or-set_other, get_or-set_same}
use Rattle.elem_cubes.specs.Cells.{Factor, point, interval, dimension_of, same_cell, lower_of, axes_of}
use Rattle.elem_cubes.specs.Faces.{IsFacet}
use Rattle.elem_cubes.specs.OrderLemmas.{cell_refl, cell_cases}
use Rattle.elem_cubes.proofs.Signs.{face_equal}
use Rattle.cell_complex.specs.FreePairs.{IsOnePointPair, differing_axis}
use Rattle.packed_words.specs.Words.{PackedWords, AreWords, IsWordOf, key_of, slot_of, place_of, no_key, key_at, word_at, nibble, state_of}
use Rattle.word_sweeps.specs.Reached.{word_without, words_without}
use Rattle.word_sweeps.specs.Laws.{RemovalsAreSwaps}
use Rattle.packed_words.proofs.Nibbles.{nibble_add_here, nibble_add_other, nibble_room, key_placed, state_placed, known_by_key}

-- the word after a removal
word_nibbles : (a b j w k : ℕ) → a ≢ b → j ≤ 4 → nibble a w ≡ 1 → nibble b w ≡ 1
    → (k ≡ a → nibble k (w + (1 + j) * 16 ^ a + 16 ^ b) ≡ 2 + j) × (k ≡ b → nibble k (w + (1 + j) * 16 ^ a + 16 ^ b) ≡ 2) × (k ≢ a → k ≢ b → nibble k (w + (1 + j) * 16 ^ a + 16 ^ b) ≡ nibble k w)
word_nibbles a b j w k ab small ea eb =
    let w1 = w + (1 + j) * 16 ^ a in
    let here1 : nibble a w1 ≡ nibble a w + (1 + j) = nibble_add_here a (1 + j) w (omega arith) in
    let keep1 : (i : ℕ) → i ≢ a → nibble i w1 ≡ nibble i w = λ i n. nibble_add_other a i (1 + j) w (omega arith) n in
    let at_b : nibble b w1 ≡ 1 = keep1 b (λ q. ab (sym q)) ∙ eb in
    let one : w1 + 1 * 16 ^ b ≡ w1 + 16 ^ b = omega arith in
    let here2 : nibble b (w1 + 16 ^ b) ≡ nibble b w1 + 1 = ap (nibble b) (sym one) ∙ nibble_add_here b 1 w1 (omega arith) in
    let keep2 : (i : ℕ) → i ≢ b → nibble i (w1 + 16 ^ b) ≡ nibble i w1 = λ i n. ap (nibble i) (sym one) ∙ nibble_add_other b i 1 w1 (omega arith) n in
    ((λ q. rw q (let x = keep2 a ab in omega arith)), (λ q. rw q (omega arith)), (λ na nb. keep2 k nb ∙ keep1 k na))

word_room : (a b j w : ℕ) → a ≢ b → a < 16 → b < 16 → j ≤ 4 → w < 16 ^ 16 → nibble a w ≡ 1 → nibble b w ≡ 1 → w + (1 + j) * 16 ^ a + 16 ^ b < 16 ^ 16
word_room a b j w ab la lb small h ea eb =
    let w1 = w + (1 + j) * 16 ^ a in
    let h1 : w1 < 16 ^ 16 = nibble_room 16 a (1 + j) w la h (omega arith) in
    let at_b : nibble b w1 ≡ 1 = nibble_add_other a b (1 + j) w (omega arith) (λ q. ab (sym q)) ∙ eb in
    let h2 = nibble_room 16 b 1 w1 lb h1 (omega arith) in
    omega arith

-- ---- a pair within one word

halved : ℕ → ℕ → ℕ
halved zero n = n
halved (suc k) n = halved k (n / 2)

pub differing_axis-positive : (a b : List Factor) → IsFacet b a → 1 ≤ differing_axis a b
differing_axis-positive [] [] f = absurd (omega (arith, f.1))
differing_axis-positive [] (r ∷ rs) f = absurd f.0
differing_axis-positive (q ∷ qs) [] f = absurd f.0
differing_axis-positive (point l ∷ qs) (point m ∷ rs) f = omega arith
differing_axis-positive (point l ∷ qs) (interval m ∷ rs) f = omega arith
differing_axis-positive (interval l ∷ qs) (r ∷ rs) f = omega arith

halves_alike : (k : ℕ) (a b : List Factor) → IsFacet b a → lower_of a ≡ lower_of b → differing_axis a b ≤ k → halved k (axes_of a) ≡ halved k (axes_of b)
unfolding halved
halves_alike zero a b f e h = let p = differing_axis-positive a b f in absurd (omega arith)
halves_alike (suc k) [] [] f e h = refl
halves_alike (suc k) [] (r ∷ rs) f e h = absurd f.0
halves_alike (suc k) (q ∷ qs) [] f e h = absurd f.0
halves_alike (suc k) (point l ∷ qs) (point m ∷ rs) f e h =
    let x : (2 * axes_of qs) / 2 ≡ axes_of qs = omega arith in
    let y : (2 * axes_of rs) / 2 ≡ axes_of rs = omega arith in
    ap (halved k) x ∙ halves_alike k qs rs (f.0.1, f.1) (cc) (omega arith) ∙ ap (halved k) (sym y)
halves_alike (suc k) (point l ∷ qs) (interval m ∷ rs) f e h =
    let s : rs ≡ qs = face_equal rs qs f.0.1 (let d = f.1 in omega arith) in
    let x : (2 * axes_of qs) / 2 ≡ axes_of qs = omega arith in
    let y : (1 + 2 * axes_of rs) / 2 ≡ axes_of rs = omega arith in
    ap (halved k) x ∙ ap (λ c. halved k (axes_of c)) (sym s) ∙ ap (halved k) (sym y)
halves_alike (suc k) (interval l ∷ qs) (point m ∷ rs) f e h = absurd f.0.0
halves_alike (suc k) (interval l ∷ qs) (interval m ∷ rs) f e h =
    let x : (1 + 2 * axes_of qs) / 2 ≡ axes_of qs = omega arith in
    let y : (1 + 2 * axes_of rs) / 2 ≡ axes_of rs = omega arith in
    ap (halved k) x ∙ halves_alike k qs rs (f.0.1, (let d = f.1 in omega arith)) (cc) (omega arith) ∙ ap (halved k) (sym y)

four_halves : (n : ℕ) → halved 4 n ≡ n / 16
unfolding halved
four_halves n = omega arith

pub uppers_alike : (a b : List Factor) → IsOnePointPair a b → axes_of a / 16 ≡ axes_of b / 16
uppers_alike a b o = sym (four_halves (axes_of a)) ∙ halves_alike 4 a b o.facet o.corner o.axis ∙ four_halves (axes_of b)

pub keys_alike : (a b : List Factor) → IsOnePointPair a b → key_of a ≡ key_of b
keys_alike a b o = λ i. record { corner = o.corner i; upper = 16 * uppers_alike a b o i }

slots_apart : (a b : List Factor) → IsOnePointPair a b → slot_of a ≢ slot_of b
slots_apart a b o q = let e = ap dimension_of (known_by_key a b o.corner (ap (λ v. 16 * v) (uppers_alike a b o)) q) in absurd (omega (arith, o.facet.1))

-- ---- removals

pub states : (w : PackedWords) (t : List Factor × List Factor)
    → length w.words ≡ length w.keys → IsOnePointPair t.0 t.1 → state_of w t.0 ≡ 1 → state_of w t.1 ≡ 1
    → (c : List Factor) → state_of (words_without t w) c ≡ cond (same_cell c t.0) (2 + differing_axis t.0 t.1) (cond (same_cell c t.1) 2 (state_of w c))
states w t sizes o ea eb c =
    let i = place_of w.keys (key_of t.0) in
    let v = word_at w i in
    let v2 = word_without t v in
    let listed : i < length w.keys = state_placed w t.0 sizes (omega arith) in
    let eb2 : nibble (slot_of t.1) v ≡ 1 = ap (λ k. nibble (slot_of t.1) (word_at w (place_of w.keys k))) (keys_alike t.0 t.1 o) ∙ eb in
    let bits = word_nibbles (slot_of t.0) (slot_of t.1) (differing_axis t.0 t.1) v (slot_of c) (slots_apart t.0 t.1 o) o.axis ea eb2 in
    ⊎_elim
    (λ e.
    let at_c = key_placed w.keys (key_of c) (omega arith) in
    let at_t = key_placed w.keys (key_of t.0) listed in
    let low : lower_of c ≡ lower_of t.0 = sym at_c.0 ∙ ap (λ j. (get_or w.keys j no_key).corner) e ∙ at_t.0 in
    let up : 16 * (axes_of c / 16) ≡ 16 * (axes_of t.0 / 16) = sym at_c.1 ∙ ap (λ j. (get_or w.keys j no_key).upper) e ∙ at_t.1 in
    let word : get_or (slice_set w.words i v2) (place_of w.keys (key_of c)) 0 ≡ v2 = ap (λ k. get_or (slice_set w.words i v2) k 0) e ∙ get_or-set_same w.words i v2 0 (omega arith) in
    let now : state_of (words_without t w) c ≡ nibble (slot_of c) v2 = ap (nibble (slot_of c)) word in
    let old : state_of w c ≡ nibble (slot_of c) v = ap (λ k. nibble (slot_of c) (get_or w.words k 0)) e in
    now ∙ ⊎_elim
    (λ f. bits.0 f ∙ sym (rw (ap (λ x. same_cell x t.0) (known_by_key c t.0 low up f) ∙ cell_refl t.0)))
    (λ f. let n : same_cell c t.0 ≡ false = differs c t.0 (λ x. f (ap slot_of x)) in
    ⊎_elim
    (λ g. bits.1 g ∙ sym (rw n (rw (ap (λ x. same_cell x t.1) (known_by_key c t.1 (low ∙ o.corner) (up ∙ ap (λ u. 16 * u) (uppers_alike t.0 t.1 o)) g) ∙ cell_refl t.1))))
    (λ g. bits.2 f g ∙ sym (rw n (rw (differs c t.1 (λ x. g (ap slot_of x))) old)))
    (cases_eq (slot_of c) (slot_of t.1)))
    (cases_eq (slot_of c) (slot_of t.0)))
    (λ d.
    let word : get_or (slice_set w.words i v2) (place_of w.keys (key_of c)) 0 ≡ get_or w.words (place_of w.keys (key_of c)) 0 = get_or-set_other w.words i (place_of w.keys (key_of c)) v2 0 d in
    ap (nibble (slot_of c)) word ∙ sym (rw (differs c t.0 (λ x. d (ap (λ y. place_of w.keys (key_of y)) x))) (rw (differs c t.1 (λ x. d (ap (λ y. place_of w.keys (key_of y)) x ∙ ap (place_of w.keys) (sym (keys_alike t.0 t.1 o))))))))
    (cases_eq (place_of w.keys (key_of c)) i)
  where
    differs : (x y : List Factor) → x ≢ y → same_cell x y ≡ false
    differs x y n = ⊎_elim (λ e. absurd (n e)) (λ f. f) (cell_cases x y)

removed_word : (w : PackedWords) (t : List Factor × List Factor) → AreWords w → IsOnePointPair t.0 t.1 → state_of w t.0 ≡ 1 → state_of w t.1 ≡ 1
    → IsWordOf (key_at w (place_of w.keys (key_of t.0))) (word_without t (word_at w (place_of w.keys (key_of t.0))))
removed_word w t k o ea eb =
    let i = place_of w.keys (key_of t.0) in
    let v = word_at w i in
    let listed : i < length w.keys = state_placed w t.0 k.count (omega arith) in
    let fit = k.fit i listed in
    let eb2 : nibble (slot_of t.1) v ≡ 1 = ap (λ k. nibble (slot_of t.1) (word_at w (place_of w.keys k))) (keys_alike t.0 t.1 o) ∙ eb in
    let apart = slots_apart t.0 t.1 o in
    record {
      small = word_room (slot_of t.0) (slot_of t.1) (differing_axis t.0 t.1) v apart (omega arith) (omega arith) o.axis fit.small ea eb2;
      cells = λ s l nonzero.
          let bits = word_nibbles (slot_of t.0) (slot_of t.1) (differing_axis t.0 t.1) v s apart o.axis ea eb2 in
          fit.cells s l (λ zero_bits. ⊎_elim
          (λ e. let x = ap (λ j. nibble j v) e in absurd (omega arith))
          (λ n. ⊎_elim (λ e. let x = ap (λ j. nibble j v) e in absurd (omega arith)) (λ m. nonzero (bits.2 n m ∙ zero_bits)) (cases_eq s (slot_of t.1)))
          (cases_eq s (slot_of t.0)));
    }

pub removals : RemovalsAreSwaps
removals = record { states = states; words = removed_word }
