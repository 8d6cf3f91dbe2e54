-- Words reached by removals
use Rattle.std.proofs.Common.{◌≡◌, ℕ, ◌+◌, ◌*◌, ◌^◌, ◌<◌, refl, sym, ap, ◌∙◌, arith, List, [], ◌∷◌, ◌++◌, length, Bool, true, false, cond, ◌&&◌, ◌||◌, subst, eqb}
use Rattle.std.specs.Prelude.{not}
use Rattle.std.proofs.lemmas.Bool.{eqb-true, eq-eqb, ne_eqb, and_parts}
use Rattle.std.proofs.lemmas.List.{length-set}
use Rattle.elem_cubes.specs.Cells.{Factor, same_cell}
use Rattle.cell_complex.specs.FreePairs.{AreFreeInTurn, without_pair, without_pairs, differing_axis}
use Rattle.packed_words.specs.Words.{PackedWords, AreWords, IsWordOf, key_of, slot_of, place_of, key_at, word_at, with_word, state_of, is_alive}
use Rattle.word_sweeps.specs.Reached.{word_without, words_without}
use Rattle.word_sweeps.specs.Reached.{IsFreeIn, IsReachedBy}
use Rattle.word_sweeps.specs.Laws.{RemovalsReach, ReachedWordsCollapse}
use Rattle.word_sweeps.proofs.Removals.{states, removals}
use Rattle.packed_words.proofs.Nibbles.{state_placed}

free_alike : (alive other : List Factor → Bool) (ts : List (List Factor × List Factor)) → ((c : List Factor) → alive c ≡ other c)
    → AreFreeInTurn alive ts → AreFreeInTurn other ts
free_alike alive other ts e f = subst (λ (test : List Factor → Bool). AreFreeInTurn test ts) (λ i c. e c i) f

without_alike : (alive other : List Factor → Bool) (ts : List (List Factor × List Factor)) (c : List Factor)
    → ((c : List Factor) → alive c ≡ other c) → without_pairs ts alive c ≡ without_pairs ts other c
without_alike alive other ts c e = ap (λ (test : List Factor → Bool). without_pairs ts test c) (λ i d. e d i)

pub reached_append : (first last : PackedWords) (ts : List (List Factor × List Factor)) (t : List Factor × List Factor) → IsReachedBy first ts last → IsFreeIn last t → IsReachedBy first (ts ++ t ∷ []) (words_without t last)
reached_append first last [] t h f = (subst (λ (w : PackedWords). IsFreeIn w t) h f, ap (words_without t) h)
reached_append first last (u ∷ us) t h f = (h.0, reached_append (words_without u first) last us t h.1 f)

pub reach : RemovalsReach
reach = record { itself = λ w. ([], refl); more = λ first last t h f. (h.0 ++ t ∷ [], reached_append first last h.0 t h.1 f) }

pub alive_state : (w : PackedWords) (c : List Factor) → is_alive w c ≡ true → state_of w c ≡ 1
alive_state w c e = eqb-true (state_of w c) 1 e

pub state_alive : (w : PackedWords) (c : List Factor) → state_of w c ≡ 1 → is_alive w c ≡ true
state_alive w c e = eq-eqb (state_of w c) 1 e

pub same_size : (w : PackedWords) (t : List Factor × List Factor) → length w.words ≡ length w.keys → length (words_without t w).words ≡ length (words_without t w).keys
same_size w t e = length-set w.words (place_of w.keys (key_of t.0)) _ ∙ e

module _ (w : PackedWords) (t : List Factor × List Factor) (e : length w.words ≡ length w.keys) (f : IsFreeIn w t) where
  pub changed : (c : List Factor) → state_of (words_without t w) c ≡ cond (same_cell c t.0) (2 + differing_axis t.0 t.1) (cond (same_cell c t.1) 2 (state_of w c))
  changed = states w t e f.one_point (alive_state w t.0 f.free.face_alive) (alive_state w t.1 f.free.coface_alive)

  -- the cells alive after a removal are those before, without the two of the pair
  pub alive_without : (c : List Factor) → is_alive (words_without t w) c ≡ without_pair t (is_alive w) c
  alive_without c = ap (λ n. eqb n 1) (changed c) ∙ by_cases (same_cell c t.0) (same_cell c t.1) (differing_axis t.0 t.1) (state_of w c)
    where
      none : (n : ℕ) → eqb (2 + n) 1 ≡ false
      none n = ne_eqb (2 + n) 1 (λ q. absurd (omega arith))

      by_cases : (a b : Bool) (j s : ℕ) → eqb (cond a (2 + j) (cond b 2 s)) 1 ≡ (eqb s 1 && not (a || b))
      by_cases true b j s = none j ∙ sym (and_false (eqb s 1))
        where
          and_false : (v : Bool) → (v && false) ≡ false
          and_false true = refl
          and_false false = refl
      by_cases false true j s = none 0 ∙ sym (and_false (eqb s 1))
        where
          and_false : (v : Bool) → (v && false) ≡ false
          and_false true = refl
          and_false false = refl
      by_cases false false j s = sym (and_true (eqb s 1))
        where
          and_true : (v : Bool) → (v && true) ≡ v
          and_true true = refl
          and_true false = refl

free_all : (first last : PackedWords) (ts : List (List Factor × List Factor)) → length first.words ≡ length first.keys → IsReachedBy first ts last → AreFreeInTurn (is_alive first) ts
free_all first last [] e h = tt
free_all first last (t ∷ ts) e h = (h.0.free, free_alike (is_alive (words_without t first)) (without_pair t (is_alive first)) ts (alive_without first t e h.0) (free_all (words_without t first) last ts (same_size first t e) h.1))

left_alive : (first last : PackedWords) (ts : List (List Factor × List Factor)) → length first.words ≡ length first.keys → IsReachedBy first ts last → (c : List Factor) → is_alive last c ≡ without_pairs ts (is_alive first) c
left_alive first last [] e h c = ap (λ (w : PackedWords). is_alive w c) h
left_alive first last (t ∷ ts) e h c = left_alive (words_without t first) last ts (same_size first t e) h.1 c ∙ without_alike (is_alive (words_without t first)) (without_pair t (is_alive first)) ts c (alive_without first t e h.0)

pub without_less : (ts : List (List Factor × List Factor)) (alive : List Factor → Bool) (c : List Factor) → without_pairs ts alive c ≡ true → alive c ≡ true
without_less [] alive c e = e
without_less (t ∷ ts) alive c e = (and_parts (alive c) (not (same_cell c t.0 || same_cell c t.1)) (without_less ts (without_pair t alive) c e)).0

pub collapse : ReachedWordsCollapse
collapse = record {
  free = free_all;
  left = left_alive;
  never_back = λ first last c e h s. alive_state first c (without_less h.0 (is_alive first) c (sym (left_alive first last h.0 e h.1 c) ∙ state_alive last c s));
}

-- ---- one removal, as it is made

-- the numbers of which the new word is made
pub record IsRemoval (w : PackedWords) (t : List Factor × List Factor) (i v a m n : ℕ) : Type 0 where
  pub place : i ≡ place_of w.keys (key_of t.0)
  pub word : v ≡ word_at w i
  pub axis : a ≡ differing_axis t.0 t.1
  pub face : m ≡ 16 ^ slot_of t.0
  pub coface : n ≡ 16 ^ slot_of t.1

module _ (w : PackedWords) (t : List Factor × List Factor) (keeps : AreWords w) (f : IsFreeIn w t) where
  pub removal_placed : (i : ℕ) → i ≡ place_of w.keys (key_of t.0) → i < length w.keys
  removal_placed i e = let s = alive_state w t.0 f.free.face_alive in let l = state_placed w t.0 keeps.count (omega arith) in omega arith

  module _ (i v a m n : ℕ) (r : IsRemoval w t i v a m n) where
    new_word : v + (1 + a) * m + n ≡ word_without t (word_at w (place_of w.keys (key_of t.0)))
    new_word = λ k. (r.word ∙ ap (word_at w) r.place) k + (1 + r.axis k) * r.face k + r.coface k

    pub removal_fits : IsWordOf (key_at w i) (v + (1 + a) * m + n)
    removal_fits = subst (λ (x : ℕ). IsWordOf (key_at w x) (v + (1 + a) * m + n)) (sym r.place)
        (subst (λ (x : ℕ). IsWordOf (key_at w (place_of w.keys (key_of t.0))) x) (sym new_word) (removals.words w t keeps f.one_point (alive_state w t.0 f.free.face_alive) (alive_state w t.1 f.free.coface_alive)))

    pub removal_made : with_word w i (v + (1 + a) * m + n) ≡ words_without t w
    removal_made = λ k. with_word w (r.place k) (new_word k)
