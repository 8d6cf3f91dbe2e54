-- One step of the loops at a corner, by what is known of the words round it
use Rattle.std.proofs.Common.{◌≡◌, ℕ, zero, suc, ◌+◌, ◌-◌, ◌^◌, ◌<◌, ◌≤◌, refl, sym, ap, ◌∙◌, arith, List, length, true, subst}
use Rattle.std.specs.Prelude.{ℤ}
use Rattle.std.proofs.Math.Nat.{pow-succ'}
use Rattle.elem_cubes.specs.Cells.{Factor, is_cell, lower_of, axes_of, cell_of}
use Rattle.elem_cubes.specs.KeepingLemmas.{lower-cell_of}
use Rattle.elem_cubes.proofs.Bits.{parts_of_cell}
use Rattle.cell_complex.specs.FreePairs.{differing_axis}
use Rattle.packed_words.specs.Words.{Key, PackedWords, AreWords, key_of, place_of, word_at, nibble, state_of}
use Rattle.packed_words.proofs.Placed.{state_in_table}
use Rattle.word_sweeps.specs.Reached.{IsFreeIn, IsTurn, words_without}
use Rattle.word_sweeps.specs.FreeSlots.{first_key, word_of, IsFreeSlot, IsTold, IsAround, AreSlots, slot_pair, NoneAlive}
use Rattle.word_sweeps.proofs.Reached.{alive_state}
use Rattle.word_sweeps.proofs.Cofaces.{up_coface}
use Rattle.word_sweeps.proofs.Freed.{word_grows}
use Rattle.word_sweeps.proofs.FreeSlots.{axes_within, below_stays, free_slot, key_here, none_of_slots, none_free, pair_place, slot_free, state_here}

module _ (w : PackedWords) (corner : List ℤ) (place axes own : ℕ) (below : List ℕ) (keeps : AreWords w) (a : IsAround w corner place axes below) (read : own ≡ word_at w place) where
  few : length corner ≤ 4
  few = let e = a.count in let l = a.few in omega arith

  is_own : own ≡ word_of w corner
  is_own = read ∙ ap (word_at w) a.placed

  at_count : (slot axis : ℕ) → IsFreeSlot own below axes slot axis → IsFreeSlot own below (length corner) slot axis
  at_count slot axis f = subst (λ (n : ℕ). IsFreeSlot own below n slot axis) a.count f

  count_at : (slot axis : ℕ) → IsFreeSlot own below (length corner) slot axis → IsFreeSlot own below axes slot axis
  count_at slot axis f = subst (λ (n : ℕ). IsFreeSlot own below n slot axis) (sym a.count) f

  module _ (slot axis : ℕ) (l : slot < 2 ^ axes) (f : IsFreeSlot own below axes slot axis) where
    pub slots_at : AreSlots corner slot axis
    slots_at = record {
      few = few;
      small = subst (λ (n : ℕ). slot < 2 ^ n) a.count l;
      within = (at_count slot axis f).sole.0;
      point = f.sole.1.0;
    }

    pub free_at : IsFreeIn w (slot_pair corner slot axis)
    free_at = slot_free w corner own below keeps few is_own a.words slot slots_at.small axis (at_count slot axis f)

    pub cells_made : (is_cell (cell_of corner slot) ≡ true) × (is_cell (cell_of corner (slot + 2 ^ axis)) ≡ true)
    cells_made =
        let s = alive_state w (cell_of corner slot) free_at.free.face_alive in
        let t = alive_state w (cell_of corner (slot + 2 ^ axis)) free_at.free.coface_alive in
        ((state_in_table w (cell_of corner slot) keeps (omega arith)).cell, (state_in_table w (cell_of corner (slot + 2 ^ axis)) keeps (omega arith)).cell)

    pub around_stays : (next : PackedWords) → next ≡ words_without (slot_pair corner slot axis) w → IsAround next corner place axes below
    around_stays next e = subst (λ (x : PackedWords). IsAround x corner place axes below) (sym e) (record {
      placed = a.placed;
      within = a.within;
      count = a.count;
      few = a.few;
      words = below_stays w corner below (slot_pair corner slot axis) keeps free_at (lower-cell_of corner slot) a.words;
    })

    pub word_after_grows : (next : PackedWords) → next ≡ words_without (slot_pair corner slot axis) w → 2 ^ 64 - word_at next place < 2 ^ 64 - word_at w place
    word_after_grows next e =
        let p : place ≡ place_of w.keys (key_of (cell_of corner slot)) = pair_place w corner slot axis slots_at place a.placed in
        let g = word_grows w (slot_pair corner slot axis) (key_of (cell_of corner slot)) keeps free_at refl in
        subst (λ (x : PackedWords). 2 ^ 64 - word_at x place < 2 ^ 64 - word_at w place) (sym e)
        (subst (λ (i : ℕ). 2 ^ 64 - word_at (words_without (slot_pair corner slot axis) w) i < 2 ^ 64 - word_at w i) (sym p) g)

    -- a free pair that the last word records
    pub turn_at : (last : PackedWords) (end : ℕ) → last.keys ≡ w.keys → end ≡ word_at last place → IsTold end slot axis → IsTurn w last (slot_pair corner slot axis)
    turn_at last end keys e told = record {
      free = free_at;
      face =
          let u = (up_coface corner slot axis slots_at.within slots_at.point).axis in
          let own_word : end ≡ word_of last corner = e ∙ ap (word_at last) (a.placed ∙ ap (λ (ks : List Key). place_of ks (first_key corner)) (sym keys)) in
          state_here last corner few slot slots_at.small ∙ ap (nibble slot) (sym own_word) ∙ told ∙ omega arith;
    }

  pub none_at : ((slot axis : ℕ) → slot < 2 ^ axes → ¬ IsFreeSlot own below axes slot axis) → (t : List Factor × List Factor) → lower_of t.0 ≡ corner → ¬ IsFreeIn w t
  none_at none = none_of_slots w corner own below keeps few is_own a.words (λ slot axis l f. none slot axis (subst (λ (n : ℕ). slot < 2 ^ n) (sym a.count) l) (count_at slot axis f))

  pub none_turned : (last : PackedWords) (end : ℕ) → last.keys ≡ w.keys → end ≡ word_at last place → ((slot axis : ℕ) → slot < 2 ^ axes → IsTold end slot axis → ¬ IsFreeSlot own below axes slot axis)
      → (t : List Factor × List Factor) → lower_of t.0 ≡ corner → ¬ IsTurn w last t
  none_turned last end keys e none t low turn =
      let slot = axes_of t.0 in
      let same : t.0 ≡ cell_of corner slot = sym (parts_of_cell t.0) ∙ ap (λ (x : List ℤ). cell_of x slot) low in
      let s : slot < 2 ^ length corner = subst (λ (x : List ℤ). slot < 2 ^ length x) low (axes_within w t.0 keeps turn.free.free.face_alive) in
      let h = free_slot w corner own below keeps few is_own a.words slot s t.1 (subst (λ (x : List Factor). IsFreeIn w (x, t.1)) same turn.free) in
      let u = (up_coface corner slot h.0 h.1.sole.0 h.1.sole.1.0).axis in
      let d : differing_axis t.0 t.1 ≡ 1 + h.0 = (λ i. differing_axis (same i) (h.2 i)) ∙ u in
      let own_word : end ≡ word_of last corner = e ∙ ap (word_at last) (a.placed ∙ ap (λ (ks : List Key). place_of ks (first_key corner)) (sym keys)) in
      let told : nibble slot end ≡ 2 + differing_axis t.0 t.1 = ap (nibble slot) own_word ∙ sym (state_here last corner few slot s) ∙ ap (state_of last) (sym same) ∙ turn.face in
      none slot h.0 (subst (λ (n : ℕ). slot < 2 ^ n) (sym a.count) s) (omega arith) (count_at slot h.0 h.1)

-- the place of a vertex is that of the corner's word
pub vertex_placed : (w : PackedWords) (corner : List ℤ) (vertex : List Factor) (place : ℕ) → length corner ≤ 4 → vertex ≡ cell_of corner 0 → place ≡ place_of w.keys (key_of vertex) → place ≡ place_of w.keys (first_key corner)
vertex_placed w corner vertex place few e p = p ∙ ap (place_of w.keys) (ap key_of e ∙ key_here w corner few 0 (some (length corner)))
  where
    some : (k : ℕ) → 0 < 2 ^ k
    some zero = omega arith
    some (suc k) = let e = pow-succ' 2 k in let h = some k in omega arith

pub none_turned_alive : (w last : PackedWords) (corner : List ℤ) → NoneAlive w corner → (t : List Factor × List Factor) → lower_of t.0 ≡ corner → ¬ IsTurn w last t
none_turned_alive w last corner none t e turn = none_free w corner none t e turn.free
