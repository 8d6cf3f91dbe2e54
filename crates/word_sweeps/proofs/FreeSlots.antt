-- Free slots of a word are the free pairs at its corner
use Rattle.std.proofs.Common.{◌≡◌, ◌≢◌, ℕ, zero, suc, ◌+◌, ◌*◌, ◌/◌, ◌%◌, ◌^◌, ◌<◌, ◌≤◌, refl, sym, ap, ◌∙◌, arith, ⊎_elim, List, [], ◌∷◌, length, get_or, set, true, false, cond, ◌&&◌, subst, Option, Some, None, is_some}
use Rattle.std.specs.Prelude.{ℤ, negsuc, nat_lt, nat_le, Bool, ◌==◌, IfSome, IfNone}
use Rattle.std.specs.List.{list_all}
use Rattle.std.proofs.lemmas.Bool.{true≢false, cases_eq, cases_lt, cases_Bool, and_from, and_parts}
use Rattle.std.proofs.lemmas.Bool.Decides.{nat_tests}
use Rattle.std.proofs.lemmas.List.{get_or_past, get_or-set_same, get_or-set_other, length-set}
use Rattle.std.proofs.Math.Nat.{pow-succ'}
use Rattle.elem_cubes.specs.Corners.{is_corner, is_end, is_file_end}
use Rattle.elem_cubes.specs.Cells.{Factor, point, interval, factor_of, high, moved, is_factor, is_file_factor, is_cell, lower_of, axes_of, cell_of}
use Rattle.elem_cubes.specs.Walks.{factor_at}
use Rattle.elem_cubes.specs.KeepingLemmas.{lower-cell_of, axes-cell_of, length-cell_of}
use Rattle.elem_cubes.proofs.Bits.{parts_of_cell}
use Rattle.cell_complex.specs.FreePairs.{differing_axis}
use Rattle.packed_words.specs.Words.{Key, PackedWords, AreWords, key_of, slot_of, place_of, key_at, word_at, nibble, state_of, is_alive}
use Rattle.packed_words.proofs.Nibbles.{key_placed, state_placed, nibble-zero}
use Rattle.packed_words.proofs.Placed.{state_in_table}
use Rattle.word_sweeps.specs.Reached.{IsFreeIn, words_without}
use Rattle.word_sweeps.specs.FreeSlots.{below_corner, first_key, word_of, AreBelow, IsPointAlong, HasCoface, IsSoleAxis, IsFreeSlot, slot_pair, NoneAlive, AreSlots}
use Rattle.word_sweeps.proofs.Reached.{alive_state, state_alive, removal_placed, IsRemoval}
use Rattle.word_sweeps.proofs.Cofaces.{further, coface_beside, up_coface, down_coface, not_below}

-- ---- slots

pub pow_four : (n : ℕ) → n ≤ 4 → 2 ^ n ≤ 16
pow_four zero h = omega arith
pow_four (suc zero) h = omega arith
pow_four (suc (suc zero)) h = omega arith
pow_four (suc (suc (suc zero))) h = omega arith
pow_four (suc (suc (suc (suc zero)))) h = omega arith
pow_four (suc (suc (suc (suc (suc n))))) h = absurd (omega arith)

-- a slot with one axis more is one of the corner's
pub room : (n s k : ℕ) → s < 2 ^ n → k < n → IsPointAlong s k → s + 2 ^ k < 2 ^ n
room zero s k l h p = absurd (omega arith)
room (suc n) s zero l h p = let e = pow-succ' 2 n in omega arith
room (suc n) s (suc k) l h p =
    let e = pow-succ' 2 n in
    let f = pow-succ' 2 k in
    let q : s / 2 / 2 ^ k % 2 ≡ 0 = sym (ap (λ m. m % 2) (further s k)) ∙ p in
    let r : s / 2 + 2 ^ k < 2 ^ n = room n (s / 2) k (omega arith) (omega arith) q in
    omega arith

module _ (w : PackedWords) (corner : List ℤ) (few : length corner ≤ 4) where
  slots_few : (s : ℕ) → s < 2 ^ length corner → s < 16
  slots_few s l = let p = pow_four (length corner) few in omega arith

  pub key_here : (s : ℕ) → s < 2 ^ length corner → key_of (cell_of corner s) ≡ first_key corner
  key_here s l =
      let a = axes-cell_of corner s l in
      let b = lower-cell_of corner s in
      let t = slots_few s l in
      let d : 16 * (axes_of (cell_of corner s) / 16) ≡ 0 = omega arith in
      λ j. record { corner = b j; upper = d j }

  pub slot_here : (s : ℕ) → s < 2 ^ length corner → slot_of (cell_of corner s) ≡ s
  slot_here s l = let a = axes-cell_of corner s l in let t = slots_few s l in omega arith

  pub state_here : (s : ℕ) → s < 2 ^ length corner → state_of w (cell_of corner s) ≡ nibble s (word_of w corner)
  state_here s l = λ j. nibble (slot_here s l j) (word_at w (place_of w.keys (key_here s l j)))

-- what is alive in the word of a corner is one of its slots
pub slot_within : (w : PackedWords) (corner : List ℤ) (s : ℕ) → AreWords w → s < 16 → nibble s (word_of w corner) ≡ 1 → s < 2 ^ length corner
slot_within w corner s keeps l e =
    let i = place_of w.keys (first_key corner) in
    let within : i < length w.keys = ⊎_elim
    (λ lt. lt)
    (λ ge. let z = ap (nibble s) (get_or_past w.words i 0 (omega (arith, keeps.count))) ∙ nibble-zero s in absurd (omega arith))
    (cases_lt i (length w.keys)) in
    let k = key_placed w.keys (first_key corner) within in
    let t = (keeps.fit i within).cells s l (λ z. omega arith) in
    let up = (key_at w i).upper in
    let n = length (key_at w i).corner in
    let parts = and_parts (nat_lt (up + s) (2 ^ n)) (list_all is_file_factor (cell_of (key_at w i).corner (up + s))) t in
    let few : nat_lt (up + s) (2 ^ n) ≡ true = parts.0 in
    let small : up + s < 2 ^ n = grind (arith, nat_tests) in
    let same : 2 ^ n ≡ 2 ^ length corner = ap (λ (xs : List ℤ). 2 ^ length xs) k.0 in
    omega (arith, k.1)

-- a cell that is alive is that of a slot of its corner
pub axes_within : (w : PackedWords) (c : List Factor) → AreWords w → is_alive w c ≡ true → axes_of c < 2 ^ length (lower_of c)
axes_within w c keeps e =
    let s = alive_state w c e in
    let t = (state_in_table w c keeps (omega arith)).axes in
    grind (arith, nat_tests)

-- ---- free slots

module _ (w : PackedWords) (corner : List ℤ) (own : ℕ) (below : List ℕ) (keeps : AreWords w) (few : length corner ≤ 4) (is : own ≡ word_of w corner) (are : AreBelow w corner below) where
  own_state : (s : ℕ) → s < 2 ^ length corner → state_of w (cell_of corner s) ≡ nibble s own
  own_state s l = state_here w corner few s l ∙ ap (nibble s) (sym is)

  below_state : (k s : ℕ) → k < length corner → s < 2 ^ length corner → state_of w (cell_of (below_corner corner k) s) ≡ nibble s (get_or below k 0)
  below_state k s h l =
      let e : length (below_corner corner k) ≡ length corner = length-set corner k _ in
      let l2 : s < 2 ^ length (below_corner corner k) = subst (λ (n : ℕ). s < 2 ^ n) (sym e) l in
      state_here w (below_corner corner k) (omega arith) s l2 ∙ ap (nibble s) (sym (are k h))

  module _ (slot : ℕ) (s : slot < 2 ^ length corner) where
    abbrev pub face : List Factor
    face = cell_of corner slot

    abbrev pub up : ℕ → List Factor
    up k = cell_of corner (slot + 2 ^ k)

    abbrev pub down : ℕ → List Factor
    down k = cell_of (below_corner corner k) (slot + 2 ^ k)

    more : (k : ℕ) → k < length corner → IsPointAlong slot k → slot + 2 ^ k < 2 ^ length corner
    more k h p = room (length corner) slot k s h p

    pub slot_free : (axis : ℕ) → IsFreeSlot own below (length corner) slot axis → IsFreeIn w (slot_pair corner slot axis)
    slot_free axis f =
        let t = more axis f.sole.0 f.sole.1.0 in
        let u = up_coface corner slot axis f.sole.0 f.sole.1.0 in
        let a = u.axis in
        record {
          one_point = record { facet = u.facet; corner = lower-cell_of corner slot ∙ sym (lower-cell_of corner (slot + 2 ^ axis)); axis = omega (arith, f.sole.0) };
          free = record {
            face_alive = state_alive w face (own_state slot s ∙ f.alive);
            coface_alive = state_alive w (up axis) (own_state (slot + 2 ^ axis) t ∙ f.sole.1.1);
            facet = u.facet;
            only = λ c e k.
                let h = coface_beside corner slot c k in
                let m = more h.0 h.1 h.2 in
                ⊎_elim
                (λ (x : c ≡ up h.0).
                let q : h.0 ≡ axis = f.sole.2 h.0 h.1 (h.2, sym (own_state (slot + 2 ^ h.0) m) ∙ ap (state_of w) (sym x) ∙ alive_state w c e) in
                x ∙ ap up q)
                (λ (x : c ≡ down h.0). absurd (f.clear (h.0, h.1, (h.2, sym (below_state h.0 (slot + 2 ^ h.0) h.1 m) ∙ ap (state_of w) (sym x) ∙ alive_state w c e))))
                h.3;
          };
        }

    -- a pair that is free, whose face this is
    pub free_slot : (b : List Factor) → IsFreeIn w (face, b) → (axis : ℕ) × IsFreeSlot own below (length corner) slot axis × (b ≡ up axis)
    free_slot b f =
        let h = coface_beside corner slot b f.free.facet in
        let low : lower_of b ≡ corner = sym f.one_point.corner ∙ lower-cell_of corner slot in
        let m = more h.0 h.1 h.2 in
        let at_below : (k : ℕ) → k < length corner → lower_of (down k) ≡ corner → ⊥ = λ k l e. not_below corner k l (sym (lower-cell_of (below_corner corner k) (slot + 2 ^ k)) ∙ e) in
        ⊎_elim
        (λ (x : b ≡ up h.0). (
          h.0,
          record {
            alive = sym (own_state slot s) ∙ alive_state w face f.free.face_alive;
            sole = (
              h.1,
              (h.2, sym (own_state (slot + 2 ^ h.0) m) ∙ ap (state_of w) (sym x) ∙ alive_state w b f.free.coface_alive),
              λ k l g.
                  let u = up_coface corner slot k l g.0 in
                  let v = up_coface corner slot h.0 h.1 h.2 in
                  let same : up k ≡ b = f.free.only (up k) (state_alive w (up k) (own_state (slot + 2 ^ k) (more k l g.0) ∙ g.1)) u.facet in
                  let d : differing_axis face (up k) ≡ differing_axis face (up h.0) = ap (differing_axis face) (same ∙ x) in
                  omega (arith, u.axis, v.axis),
            );
            clear = λ g.
                let u = down_coface corner slot g.0 g.1 g.2.0 in
                let same : down g.0 ≡ b = f.free.only (down g.0) (state_alive w (down g.0) (below_state g.0 (slot + 2 ^ g.0) g.1 (more g.0 g.1 g.2.0) ∙ g.2.1)) u.facet in
                at_below g.0 g.1 (ap lower_of same ∙ low);
          },
          x,
        ))
        (λ (x : b ≡ down h.0). absurd (at_below h.0 h.1 (ap lower_of (sym x) ∙ low)))
        h.3

  -- where no slot is free, no pair at the corner is
  pub none_of_slots : ((slot axis : ℕ) → slot < 2 ^ length corner → ¬ IsFreeSlot own below (length corner) slot axis) → (t : List Factor × List Factor) → lower_of t.0 ≡ corner → ¬ IsFreeIn w t
  none_of_slots none t e f =
      let slot = axes_of t.0 in
      let same : t.0 ≡ cell_of corner slot = sym (parts_of_cell t.0) ∙ ap (λ (x : List ℤ). cell_of x slot) e in
      let s : slot < 2 ^ length corner = subst (λ (x : List ℤ). slot < 2 ^ length x) e (axes_within w t.0 keeps f.free.face_alive) in
      let h = free_slot slot s t.1 (subst (λ (x : List Factor). IsFreeIn w (x, t.1)) same f) in
      none slot h.0 s h.1

-- ---- the words round a corner stay as they are

pub below_stays : (w : PackedWords) (corner : List ℤ) (below : List ℕ) (t : List Factor × List Factor) → AreWords w → IsFreeIn w t → lower_of t.0 ≡ corner → AreBelow w corner below → AreBelow (words_without t w) corner below
below_stays w corner below t keeps f e are k l =
    let i = place_of w.keys (key_of t.0) in
    let j = place_of w.keys (first_key (below_corner corner k)) in
    let within = removal_placed w t keeps f i refl in
    let apart : j ≢ i = λ q.
    let a = key_placed w.keys (key_of t.0) within in
    let b = key_placed w.keys (first_key (below_corner corner k)) (omega arith) in
    not_below corner k l (sym b.0 ∙ ap (λ n. (key_at w n).corner) q ∙ a.0 ∙ e) in
    are k l ∙ sym (get_or-set_other w.words i j _ 0 apart)

-- ---- the vertex of a corner

lows : (ls : List ℤ) → list_all is_end ls ≡ true → list_all is_factor (cell_of ls 0) ≡ true
lows [] h = refl
lows (l ∷ ls) h =
    let p = and_parts (is_end l) (list_all is_end ls) h in
    and_from (is_end l && is_end l) (list_all is_factor (cell_of ls 0)) (and_from (is_end l) (is_end l) p.0 p.0) (lows ls p.1)

positive : (k : ℕ) → 0 < 2 ^ k
positive zero = omega arith
positive (suc k) = let e = pow-succ' 2 k in let h = positive k in omega arith

pub vertex_made : (corner : List ℤ) → is_corner corner ≡ true → (nat_lt 0 (2 ^ length corner) && is_cell (cell_of corner 0)) ≡ true
vertex_made corner h =
    let n = length corner in
    let p = and_parts (nat_le 1 n && nat_le n 4) (list_all is_end corner) h in
    let e : n ≡ length (cell_of corner 0) = sym (length-cell_of corner 0) in
    let sized : (nat_le 1 (length (cell_of corner 0)) && nat_le (length (cell_of corner 0)) 4) ≡ true = subst (λ (k : ℕ). (nat_le 1 k && nat_le k 4) ≡ true) e p.0 in
    and_from (nat_lt 0 (2 ^ n)) (is_cell (cell_of corner 0)) (some n)
    (and_from (nat_le 1 (length (cell_of corner 0)) && nat_le (length (cell_of corner 0)) 4) (list_all is_factor (cell_of corner 0)) sized (lows corner p.1))
  where
    some : (k : ℕ) → nat_lt 0 (2 ^ k) ≡ true
    some k = let h = positive k in grind (arith, nat_tests)

low_in_file : (b : Bool) (l : ℤ) → is_file_factor (factor_of b l) ≡ true → is_file_end l ≡ true
low_in_file true l h = (and_parts (is_file_end l) (is_file_end (high (interval l))) h).0
low_in_file false l h = (and_parts (is_file_end l) (is_file_end l) h).0

vertex_in_file : (ls : List ℤ) (a : ℕ) → list_all is_file_factor (cell_of ls a) ≡ true → list_all is_file_factor (cell_of ls 0) ≡ true
vertex_in_file [] a h = refl
vertex_in_file (l ∷ ls) a h =
    let p = and_parts (is_file_factor (factor_of (a % 2 == 1) l)) (list_all is_file_factor (cell_of ls (a / 2))) h in
    let q = low_in_file (a % 2 == 1) l p.0 in
    and_from (is_file_end l && is_file_end l) (list_all is_file_factor (cell_of ls 0)) (and_from (is_file_end l) (is_file_end l) q q) (vertex_in_file ls (a / 2) p.1)

-- where the vertex is out of the range of files, and where the corner has no word, nothing is alive
module _ (w : PackedWords) (corner : List ℤ) (keeps : AreWords w) where
  pub none_out_of_range : list_all is_file_factor (cell_of corner 0) ≡ false → NoneAlive w corner
  none_out_of_range out c e = ⊎_elim
      (λ a.
      let s = alive_state w c a in
      let t = state_in_table w c keeps (omega arith) in
      let same : c ≡ cell_of corner (axes_of c) = sym (parts_of_cell c) ∙ ap (λ (x : List ℤ). cell_of x (axes_of c)) e in
      absurd (true≢false (sym (vertex_in_file corner (axes_of c) (sym (ap (list_all is_file_factor) same) ∙ t.in_range)) ∙ out)))
      (λ f. f)
      (cases_Bool (is_alive w c))

  pub none_without_word : length corner ≤ 4 → length w.keys ≤ place_of w.keys (first_key corner) → NoneAlive w corner
  none_without_word few past c e = ⊎_elim
      (λ a.
      let s = alive_state w c a in
      let placed = state_placed w c keeps.count (omega arith) in
      let same : c ≡ cell_of corner (axes_of c) = sym (parts_of_cell c) ∙ ap (λ (x : List ℤ). cell_of x (axes_of c)) e in
      let within : axes_of c < 2 ^ length corner = subst (λ (x : List ℤ). axes_of c < 2 ^ length x) e (axes_within w c keeps a) in
      let k : key_of c ≡ first_key corner = ap key_of same ∙ key_here w corner few (axes_of c) within in
      let p : place_of w.keys (key_of c) ≡ place_of w.keys (first_key corner) = ap (place_of w.keys) k in
      absurd (omega arith))
      (λ f. f)
      (cases_Bool (is_alive w c))

pub none_free : (w : PackedWords) (corner : List ℤ) → NoneAlive w corner → (t : List Factor × List Factor) → lower_of t.0 ≡ corner → ¬ IsFreeIn w t
none_free w corner none t e f = true≢false (sym f.free.face_alive ∙ none t.0 e)

-- ---- the parts of one removal

module _ (w : PackedWords) (corner : List ℤ) (slot axis : ℕ) (at : AreSlots corner slot axis) where
  more_room : slot + 2 ^ axis < 2 ^ length corner
  more_room = room (length corner) slot axis at.small at.within at.point

  pub pair_place : (i : ℕ) → i ≡ place_of w.keys (first_key corner) → i ≡ place_of w.keys (key_of (cell_of corner slot))
  pair_place i e = e ∙ ap (place_of w.keys) (sym (key_here w corner at.few slot at.small))

  pub slot_removal : (i v a m n : ℕ) → i ≡ place_of w.keys (first_key corner) → v ≡ word_at w i → a ≡ 1 + axis → m ≡ 16 ^ slot → n ≡ 16 ^ (slot + 2 ^ axis)
      → IsRemoval w (slot_pair corner slot axis) i v a m n
  slot_removal i v a m n ei ev ea em en = record {
    place = pair_place i ei;
    word = ev;
    axis = ea ∙ sym (up_coface corner slot axis at.within at.point).axis;
    face = em ∙ ap (λ k. 16 ^ k) (sym (slot_here w corner at.few slot at.small));
    coface = en ∙ ap (λ k. 16 ^ k) (sym (slot_here w corner at.few (slot + 2 ^ axis) more_room));
  }

pub sixteen : (a : ℕ) → 2 ^ (4 * a) ≡ 16 ^ a
sixteen zero = refl
sixteen (suc a) =
    let e : 4 * suc a ≡ suc (suc (suc (suc (4 * a)))) = omega arith in
    let p = pow-succ' 2 (suc (suc (suc (4 * a)))) in
    let q = pow-succ' 2 (suc (suc (4 * a))) in
    let r = pow-succ' 2 (suc (4 * a)) in
    let s = pow-succ' 2 (4 * a) in
    let t = pow-succ' 16 a in
    let h = sixteen a in
    ap (λ n. 2 ^ n) e ∙ omega arith

-- ---- cells that can be made

pub made_some : (corner : List ℤ) (axes : ℕ) (o : Option (List Factor)) → o ≡ cond (nat_lt axes (2 ^ length corner) && is_cell (cell_of corner axes)) (Some (cell_of corner axes)) None
    → axes < 2 ^ length corner → is_cell (cell_of corner axes) ≡ true → is_some o ≡ true
made_some corner axes o e l h =
    let t : nat_lt axes (2 ^ length corner) ≡ true = grind (arith, nat_tests) in
    ap is_some (e ∙ ap (λ b. cond b (Some (cell_of corner axes)) None) (and_from (nat_lt axes (2 ^ length corner)) (is_cell (cell_of corner axes)) t h))

pub vertex_some : (corner : List ℤ) (o : Option (List Factor)) → o ≡ cond (nat_lt 0 (2 ^ length corner) && is_cell (cell_of corner 0)) (Some (cell_of corner 0)) None
    → is_corner corner ≡ true → is_some o ≡ true
vertex_some corner o e h = ap is_some (e ∙ ap (λ b. cond b (Some (cell_of corner 0)) None) (vertex_made corner h))

pub moved_vertex : (ls : List ℤ) (i : ℕ) → i < length ls → set (cell_of ls 0) i (moved (negsuc 0) (factor_at (cell_of ls 0) i)) ≡ cell_of (below_corner ls i) 0
moved_vertex [] i h = absurd (omega arith)
moved_vertex (l ∷ ls) zero h = refl
moved_vertex (l ∷ ls) (suc i) h = ap (λ (qs : List Factor). point l ∷ qs) (moved_vertex ls i (omega arith))

-- the word where a step down leads
pub step_word : (w : PackedWords) (corner : List ℤ) (i v : ℕ) (vertex down : List Factor) → length corner ≤ 4 → i < length corner → vertex ≡ cell_of corner 0
    → down ≡ set vertex i (moved (negsuc 0) (factor_at vertex i)) → v ≡ word_at w (place_of w.keys (key_of down)) → v ≡ word_of w (below_corner corner i)
step_word w corner i v vertex down few l e d h =
    let n : length (below_corner corner i) ≡ length corner = length-set corner i _ in
    let is : down ≡ cell_of (below_corner corner i) 0 = d ∙ ap (λ (q : List Factor). set q i (moved (negsuc 0) (factor_at q i))) e ∙ moved_vertex corner i l in
    let k : key_of down ≡ first_key (below_corner corner i) = ap key_of is ∙ key_here w (below_corner corner i) (omega arith) 0 (positive (length (below_corner corner i))) in
    h ∙ ap (λ (x : Key). word_at w (place_of w.keys x)) k

pub below_more : (w : PackedWords) (corner : List ℤ) (below : List ℕ) (i v : ℕ) → i < length below → v ≡ word_of w (below_corner corner i)
    → ((k : ℕ) → k < i → get_or below k 0 ≡ word_of w (below_corner corner k)) → (k : ℕ) → k < i + 1 → get_or (set below i v) k 0 ≡ word_of w (below_corner corner k)
below_more w corner below i v l e inv k h = ⊎_elim
    (λ (q : k ≡ i). ap (λ n. get_or (set below i v) n 0) q ∙ get_or-set_same below i v 0 l ∙ e ∙ ap (λ n. word_of w (below_corner corner n)) (sym q))
    (λ d. get_or-set_other below i k v 0 d ∙ inv k (omega arith))
    (cases_eq k i)

-- ---- the search for the one coface

abbrev pub Sole : ℕ → ℕ → ℕ → Option ℕ → Type 0
Sole own i slot found = IfSome found (λ a. IsSoleAxis own i slot a) × IfNone found ((k : ℕ) → k < i → ¬ HasCoface own slot k)

pub sole_skip : (own i slot : ℕ) (found : Option ℕ) → Sole own i slot found → ¬ HasCoface own slot i → Sole own (i + 1) slot found
sole_skip own i slot None s n = (tt, λ k l h. ⊎_elim (λ (q : k ≡ i). n (subst (HasCoface own slot) q h)) (λ d. s.1 k (omega arith) h) (cases_eq k i))
sole_skip own i slot (Some a) s n = (
  (omega (arith, s.0.0), s.0.1, λ k l h. ⊎_elim (λ (q : k ≡ i). absurd (n (subst (HasCoface own slot) q h))) (λ d. s.0.2 k (omega arith) h) (cases_eq k i)),
  tt,
)

pub sole_take : (own i slot : ℕ) (found : Option ℕ) → Sole own i slot found → is_some found ≡ false → HasCoface own slot i → Sole own (i + 1) slot (Some i)
sole_take own i slot None s n h = (
  (omega arith, h, λ k l g. ⊎_elim (λ (q : k ≡ i). q) (λ d. absurd (s.1 k (omega arith) g)) (cases_eq k i)),
  tt,
)
sole_take own i slot (Some a) s n h = absurd (true≢false n)

pub sole_two : (own axes i slot : ℕ) (found : Option ℕ) → Sole own i slot found → is_some found ≡ true → HasCoface own slot i → i < axes → (axis : ℕ) → ¬ IsSoleAxis own axes slot axis
sole_two own axes i slot None s n h l axis f = true≢false (sym n)
sole_two own axes i slot (Some a) s n h l axis f =
    let p : i ≡ axis = f.2 i l h in
    let q : a ≡ axis = f.2 a (omega (arith, s.0.0)) s.0.1 in
    omega (arith, s.0.0)

pub sole_end : (own axes i slot : ℕ) (found : Option ℕ) → Sole own i slot found → i ≡ axes
    → IfSome found (λ a. IsSoleAxis own axes slot a) × IfNone found ((axis : ℕ) → ¬ IsSoleAxis own axes slot axis)
sole_end own axes i slot None s e = (tt, λ axis f. s.1 axis (omega (arith, f.0)) f.1)
sole_end own axes i slot (Some a) s e = (subst (λ (n : ℕ). IsSoleAxis own n slot a) e s.0, tt)
