-- The keys of cells, and a cell that is made alive
use Rattle.std.proofs.Common.{◌≡◌, ◌≢◌, ℕ, zero, suc, ◌+◌, ◌*◌, ◌/◌, ◌^◌, ◌<◌, ◌≤◌, inl, inr, refl, sym, ap, ◌∙◌, arith, ⊎_elim, List, [], ◌∷◌, ◌++◌, length, get_or, take, map, slice_set, Bool, true, false, cond, ◌&&◌, ◌||◌, subst}
use Rattle.std.specs.Prelude.{nat_lt, slice_index_or}
use Rattle.std.specs.List.{Contains, list_all}
use Rattle.std.specs.List.Sorted.{IsStrictlySortedBy}
use Rattle.std.specs.Cmp.{Equal-is}
use Rattle.std.specs.Ordering.{is_eq}
use Rattle.std.specs.Cmp.{tied_itself}
use Rattle.std.proofs.lemmas.Bool.{true≢false, and_from, cases_lt, cases_eq}
use Rattle.std.proofs.lemmas.Bool.Decides.{nat_tests}
use Rattle.std.proofs.lemmas.List.{get_or-set_other, get_or-set_same, get_or_past, length-map, map-append, take_more, take_all, length-append}
use Rattle.std.proofs.lemmas.List.Folds.{list_any_at}
use Rattle.std.proofs.lemmas.List.Sums.{passes_at_first, fails_before_first}
use Rattle.elem_cubes.specs.Cells.{Factor, is_file_factor, same_cell, low, lower_of, axes_of, cell_of}
use Rattle.elem_cubes.specs.OrderLemmas.{cell_refl, cell_cases}
use Rattle.elem_cubes.specs.Laws.{cell_at}
use Rattle.elem_cubes.proofs.Bits.{parts_of_cell}
use Rattle.elem_cubes.proofs.Members.{In, In-from, from-In}
use Rattle.cube_sets.specs.Sorted.{has}
use Rattle.cell_complex.specs.Sorted.{IsSortedCells}
use Rattle.cell_complex.specs.Numbering.{number_of}
use Rattle.cell_complex.proofs.Deciding.{cell_true}
use Rattle.cell_complex.proofs.Sorting.{apart}
use Rattle.packed_words.specs.Words.{Key, PackedWords, AreWords, IsWordOf, IsKey, AreKeysOf, key_cmp, key_of, slot_of, place_of, no_key, key_at, word_at, with_word, nibble, state_of, flag_of}
use Rattle.packed_words.proofs.Nibbles.{key_placed, nibble-zero, nibble_add_here, nibble_add_other, nibble_room, known_by_key}
use Rattle.packed_words.proofs.Placed.{key_total, key_same}

-- ---- numbers of cells in order

module _ (cells : List (List Factor)) (sorted : IsSortedCells cells) where
  pub at_number : (c : List Factor) → number_of cells c < length cells → cell_at cells (number_of cells c) ≡ c
  at_number c l = sym (cell_true c (cell_at cells (number_of cells c)) (passes_at_first (same_cell c) cells [] l))

  pub number_at : (i : ℕ) → i < length cells → number_of cells (cell_at cells i) ≡ i
  number_at i l =
      let q = cell_at cells i in
      ⊎_elim
      (λ lt. absurd (true≢false (sym (cell_refl q) ∙ fails_before_first (same_cell q) cells i [] lt)))
      (λ ge. let inside : number_of cells q < length cells = omega arith in apart cells sorted.sorted (number_of cells q) i inside l (at_number q inside))
      (cases_lt i (number_of cells q))

-- ---- the keys

has_in : (keys : List Key) (k : Key) → has key_cmp keys k ≡ true → In keys k
has_in [] k h = cc
has_in (x ∷ xs) k h = elim (is_eq (key_cmp x k)) as (λ b. is_eq (key_cmp x k) ≡ b → In (x ∷ xs) k) [
  | true ↦ λ e. inl (key_same x k ((Equal-is (key_cmp x k)).0 e))
  | false ↦ λ e. inr (has_in xs k (sym (ap (λ b. b || has key_cmp xs k) e) ∙ h))
] refl

in_has : (keys : List Key) (k : Key) → In keys k → has key_cmp keys k ≡ true
in_has [] k h = absurd h
in_has (x ∷ xs) k (inl e) = ap (λ b. b || has key_cmp xs k) (ap is_eq (ap (λ y. key_cmp y k) e ∙ tied_itself key_total k))
in_has (x ∷ xs) k (inr h) = ap (λ b. is_eq (key_cmp x k) || b) (in_has xs k h) ∙ or_true (is_eq (key_cmp x k))
  where
    or_true : (b : Bool) → (b || true) ≡ true
    or_true true = refl
    or_true false = refl

same_default : {A : Type 0} (xs : List A) (i : ℕ) (d e : A) → i < length xs → get_or xs i d ≡ get_or xs i e
same_default [] i d e h = absurd (omega arith)
same_default (x ∷ xs) zero d e h = refl
same_default (x ∷ xs) (suc i) d e h = same_default xs i d e (omega arith)

has_more : (keys : List Key) (k x : Key) → has key_cmp (keys ++ k ∷ []) x ≡ (has key_cmp keys x || is_eq (key_cmp k x))
has_more [] k x = or_false (is_eq (key_cmp k x))
  where
    or_false : (b : Bool) → (b || false) ≡ b
    or_false true = refl
    or_false false = refl
has_more (y ∷ keys) k x =
    ap (λ b. is_eq (key_cmp y x) || b) (has_more keys k x)
    ∙ or_assoc (is_eq (key_cmp y x)) (has key_cmp keys x) (is_eq (key_cmp k x))
  where
    or_assoc : (a b c : Bool) → (a || (b || c)) ≡ ((a || b) || c)
    or_assoc true b c = refl
    or_assoc false b c = refl

has_again : (keys : List Key) (k x : Key) → has key_cmp keys k ≡ true → (has key_cmp keys x || is_eq (key_cmp k x)) ≡ has key_cmp keys x
has_again keys k x h = elim (is_eq (key_cmp k x)) as (λ b. is_eq (key_cmp k x) ≡ b → (has key_cmp keys x || b) ≡ has key_cmp keys x) [
  | true ↦ λ e.
      let there : has key_cmp keys x ≡ true = ap (has key_cmp keys) (sym (key_same k x ((Equal-is (key_cmp k x)).0 e))) ∙ h in
      ap (λ b. b || true) there ∙ sym there
  | false ↦ λ e. or_false (has key_cmp keys x)
] refl
  where
    or_false : (b : Bool) → (b || false) ≡ b
    or_false true = refl
    or_false false = refl

-- the last key is in the list
pub last_has : (keys : List Key) (k : Key) (i : ℕ) → i < length keys → is_eq (key_cmp (get_or keys i no_key) k) ≡ true → has key_cmp keys k ≡ true
last_has keys k i l t = list_any_at (λ x. is_eq (key_cmp x k)) keys i no_key l t

-- so many of the cells have their keys in the list
pub record AreKeysTo (cells : List (List Factor)) (keys : List Key) (n : ℕ) : Type 0 where
  pub members : (x : Key) → has key_cmp keys x ≡ has key_cmp (map key_of (take n cells)) x
  pub few : length keys ≤ n
  pub fit : (j : ℕ) → j < n → IsKey (key_of (cell_at cells j))

one_more : (cells : List (List Factor)) (n : ℕ) (k x : Key) → n < length cells → k ≡ key_of (cell_at cells n)
    → has key_cmp (map key_of (take (n + 1) cells)) x ≡ (has key_cmp (map key_of (take n cells)) x || is_eq (key_cmp k x))
one_more cells n k x l ek =
    ap (λ (ks : List Key). has key_cmp ks x) (ap (map key_of) (take_more cells n [] l) ∙ map-append key_of (take n cells) (cell_at cells n ∷ []))
    ∙ has_more (map key_of (take n cells)) (key_of (cell_at cells n)) x
    ∙ ap (λ y. has key_cmp (map key_of (take n cells)) x || is_eq (key_cmp y x)) (sym ek)

fit_more : (cells : List (List Factor)) (n : ℕ) (k : Key) → k ≡ key_of (cell_at cells n) → IsKey k
    → ((j : ℕ) → j < n → IsKey (key_of (cell_at cells j))) → (j : ℕ) → j < n + 1 → IsKey (key_of (cell_at cells j))
fit_more cells n k ek fits before j lt = ⊎_elim
    (λ b. before j b)
    (λ ge. let e : j ≡ n = omega arith in subst IsKey (ek ∙ ap (λ i. key_of (cell_at cells i)) (sym e)) fits)
    (cases_lt j n)

pub keys_skip : (cells : List (List Factor)) (keys : List Key) (n : ℕ) (c : List Factor) (k : Key) → n < length cells → c ≡ cell_at cells n
    → k ≡ key_of c → has key_cmp keys k ≡ true → IsKey (key_of c) → AreKeysTo cells keys n → AreKeysTo cells keys (n + 1)
keys_skip cells keys n c k l is ek there fits r =
    let at : k ≡ key_of (cell_at cells n) = ek ∙ ap key_of is in
    record {
      members = λ x. sym (has_again keys k x there) ∙ ap (λ b. b || is_eq (key_cmp k x)) (r.members x) ∙ sym (one_more cells n k x l at);
      few = let f = r.few in omega arith;
      fit = fit_more cells n k at (subst IsKey (sym ek) fits) r.fit;
    }

pub keys_next : (cells : List (List Factor)) (keys new : List Key) (n : ℕ) (c : List Factor) (k : Key) → n < length cells → c ≡ cell_at cells n → k ≡ key_of c → new ≡ keys ++ k ∷ [] → IsKey (key_of c) → AreKeysTo cells keys n → AreKeysTo cells new (n + 1)
keys_next cells keys new n c k l is ek en fits r =
    let at : k ≡ key_of (cell_at cells n) = ek ∙ ap key_of is in
    record {
      members = λ x. ap (λ (ks : List Key). has key_cmp ks x) en ∙ has_more keys k x ∙ ap (λ b. b || is_eq (key_cmp k x)) (r.members x) ∙ sym (one_more cells n k x l at);
      few = let f = r.few in omega (arith, ap length en ∙ length-append keys (k ∷ []));
      fit = fit_more cells n k at (subst IsKey (sym ek) fits) r.fit;
    }

module _ (cells : List (List Factor)) (keys sorted : List Key) (n : ℕ) (r : AreKeysTo cells keys n) (l : length cells ≤ n) (same : (k : Key) → has key_cmp sorted k ≡ has key_cmp keys k) where
  all_members : (x : Key) → has key_cmp sorted x ≡ has key_cmp (map key_of cells) x
  all_members x = same x ∙ r.members x ∙ ap (λ (cs : List (List Factor)). has key_cmp (map key_of cs) x) (take_all n cells l)

  pub keys_end : AreKeysOf cells sorted
  keys_end k = (
    (λ h.
        let i = has_in (map key_of cells) k (sym (all_members k) ∙ in_has sorted k (In-from sorted k h)) in
        let w = from-In (map key_of cells) k i in
        to_cell cells k w),
    (λ h.
        let i : In (map key_of cells) k = from_cell cells k h.0 h.1 h.2 in
        from-In sorted k (has_in sorted k (all_members k ∙ in_has (map key_of cells) k i))),
  )
    where
      to_cell : (qs : List (List Factor)) (k : Key) → Contains (map key_of qs) k → (i : ℕ) × (i < length qs) × (key_of (cell_at qs i) ≡ k)
      to_cell qs k w = walk qs k (In-from (map key_of qs) k w)
        where
          walk : (qs : List (List Factor)) (k : Key) → In (map key_of qs) k → (i : ℕ) × (i < length qs) × (key_of (cell_at qs i) ≡ k)
          walk [] k h = absurd h
          walk (q ∷ qs) k (inl e) = (0, omega arith, e)
          walk (q ∷ qs) k (inr h) = let v = walk qs k h in (suc v.0, omega (arith, v.1), v.2)

      from_cell : (qs : List (List Factor)) (k : Key) (i : ℕ) → i < length qs → key_of (cell_at qs i) ≡ k → In (map key_of qs) k
      from_cell [] k i h e = absurd (omega arith)
      from_cell (q ∷ qs) k zero h e = inl e
      from_cell (q ∷ qs) k (suc i) h e = inr (from_cell qs k i (omega arith) e)

  pub keys_fit : (i : ℕ) → i < length sorted → IsKey (slice_index_or sorted i no_key)
  keys_fit i h =
      let w = (keys_end (get_or sorted i no_key)).0 (from-In sorted (get_or sorted i no_key) (in_at sorted i h)) in
      subst IsKey w.2 (r.fit w.0 (omega (arith, w.1)))
    where
      in_at : (ks : List Key) (i : ℕ) → i < length ks → In ks (get_or ks i no_key)
      in_at [] i h = absurd (omega arith)
      in_at (k ∷ ks) zero h = inl refl
      in_at (k ∷ ks) (suc i) h = inr (in_at ks i (omega arith))

-- each cell of the list has a word
pub key_there : (keys : List Key) (k : Key) → Contains keys k → place_of keys k < length keys
key_there keys k w = ⊎_elim
    (λ l. l)
    (λ ge. absurd (true≢false (sym (ap is_eq (ap (λ x. key_cmp x k) (same_default keys w.0 no_key k w.1 ∙ w.2) ∙ tied_itself key_total k)) ∙ fails_before_first (λ x. is_eq (key_cmp x k)) keys w.0 no_key (let a = w.1 in omega arith))))
    (cases_lt (place_of keys k) (length keys))

-- ---- words of zeros

pub zero_next : (words new : List ℕ) → new ≡ words ++ 0 ∷ [] → ((j : ℕ) → get_or words j 0 ≡ 0) → (j : ℕ) → get_or new j 0 ≡ 0
zero_next words new e h j = ap (λ (ws : List ℕ). get_or ws j 0) e ∙ walk words j h
  where
    walk : (ws : List ℕ) (j : ℕ) → ((j : ℕ) → get_or ws j 0 ≡ 0) → get_or (ws ++ 0 ∷ []) j 0 ≡ 0
    walk [] zero h = refl
    walk [] (suc j) h = refl
    walk (w ∷ ws) zero h = h 0
    walk (w ∷ ws) (suc j) h = walk ws j (λ k. h (suc k))

pub zero_words_are : (keys : List Key) (words : List ℕ) → IsStrictlySortedBy key_cmp keys → ((i : ℕ) → i < length keys → IsKey (get_or keys i no_key)) → length keys < 2 ^ 32 → length words ≡ length keys → ((j : ℕ) → get_or words j 0 ≡ 0)
    → AreWords (record { keys = keys; words = words })
zero_words_are keys words sorted fit few count zeros = record {
  sorted = sorted;
  corners = λ i l. (fit i l).corner;
  uppers = λ i l. ((fit i l).whole, (fit i l).small);
  count = count;
  few = few;
  fit = λ i l. record { small = (let z = zeros i in omega arith); cells = λ slot low nonzero. absurd (nonzero (ap (nibble slot) (zeros i) ∙ nibble-zero slot)) };
}

pub zero_states : (w : PackedWords) → ((j : ℕ) → get_or w.words j 0 ≡ 0) → (c : List Factor) → state_of w c ≡ 0
zero_states w zeros c = ap (nibble (slot_of c)) (zeros (place_of w.keys (key_of c))) ∙ nibble-zero (slot_of c)

-- ---- a cell is made alive

module _ (w : PackedWords) (q : List Factor) (keeps : AreWords w) (l : place_of w.keys (key_of q) < length w.keys) (range : list_all is_file_factor q ≡ true) (axes : axes_of q < 2 ^ length q) (dead : state_of w q ≡ 0) where
  abbrev at : ℕ
  at = place_of w.keys (key_of q)

  abbrev old : ℕ
  old = word_at w at

  one_unit : old + 1 * 16 ^ slot_of q ≡ old + 16 ^ slot_of q
  one_unit = omega arith

  pub enlivened_fits : IsWordOf (key_at w at) (old + 16 ^ slot_of q)
  enlivened_fits =
      let fit = keeps.fit at l in
      let k = key_placed w.keys (key_of q) l in
      record {
        small = (let r = nibble_room 16 (slot_of q) 1 old (omega arith) fit.small (omega arith) in omega (arith, r, one_unit));
        cells = λ s small nonzero. ⊎_elim
            (λ e.
            let up : (key_at w at).upper + s ≡ axes_of q = omega (arith, k.1) in
            let sizes : length (key_at w at).corner ≡ length q = ap length k.0 ∙ length-map q low in
            and_from (nat_lt ((key_at w at).upper + s) (2 ^ length (key_at w at).corner)) (list_all is_file_factor (cell_of (key_at w at).corner ((key_at w at).upper + s)))
            ((λ j. nat_lt (up j) (2 ^ sizes j)) ∙ (let a = axes in grind (arith, nat_tests)))
            (ap (list_all is_file_factor) ((λ j. cell_of (k.0 j) (up j)) ∙ parts_of_cell q) ∙ range))
            (λ n. fit.cells s small (λ z. nonzero (ap (nibble s) (sym one_unit) ∙ nibble_add_other (slot_of q) s 1 old (omega arith) n ∙ z)))
            (cases_eq s (slot_of q));
      }

  pub enlivened_states : (c : List Factor) → state_of (with_word w at (old + 16 ^ slot_of q)) c ≡ cond (same_cell c q) 1 (state_of w c)
  enlivened_states c = ⊎_elim
      (λ e.
      let at_c = key_placed w.keys (key_of c) (omega arith) in
      let at_q = key_placed w.keys (key_of q) l in
      let low : lower_of c ≡ lower_of q = sym at_c.0 ∙ ap (λ j. (get_or w.keys j no_key).corner) e ∙ at_q.0 in
      let up : 16 * (axes_of c / 16) ≡ 16 * (axes_of q / 16) = sym at_c.1 ∙ ap (λ j. (get_or w.keys j no_key).upper) e ∙ at_q.1 in
      let word : get_or (slice_set w.words at (old + 16 ^ slot_of q)) (place_of w.keys (key_of c)) 0 ≡ old + 16 ^ slot_of q = ap (λ k. get_or (slice_set w.words at (old + 16 ^ slot_of q)) k 0) e ∙ get_or-set_same w.words at (old + 16 ^ slot_of q) 0 (let z = keeps.count in omega arith) in
      let now : state_of (with_word w at (old + 16 ^ slot_of q)) c ≡ nibble (slot_of c) (old + 1 * 16 ^ slot_of q) = ap (nibble (slot_of c)) (word ∙ sym one_unit) in
      now ∙ ⊎_elim
      (λ f. ap (λ s. nibble s (old + 1 * 16 ^ slot_of q)) f ∙ nibble_add_here (slot_of q) 1 old (omega arith) ∙ (let d : nibble (slot_of q) old + 1 ≡ 1 = omega arith in d) ∙ sym (rw (ap (λ x. same_cell x q) (known_by_key c q low up f) ∙ cell_refl q) refl))
      (λ n. nibble_add_other (slot_of q) (slot_of c) 1 old (omega arith) n ∙ sym (ap (λ k. nibble (slot_of c) (get_or w.words k 0)) e) ∙ sym (rw (differs c q (λ x. n (ap slot_of x))) refl))
      (cases_eq (slot_of c) (slot_of q)))
      (λ d.
      ap (nibble (slot_of c)) (get_or-set_other w.words at (place_of w.keys (key_of c)) (old + 16 ^ slot_of q) 0 d) ∙ sym (rw (differs c q (λ x. d (ap (λ y. place_of w.keys (key_of y)) x))) refl))
      (cases_eq (place_of w.keys (key_of c)) at)
    where
      differs : (x y : List Factor) → x ≢ y → same_cell x y ≡ false
      differs x y n = ⊎_elim (λ e. absurd (n e)) (λ f. f) (cell_cases x y)

  module _ (i v u : ℕ) (ei : i ≡ at) (ev : v ≡ word_at w i) (eu : u ≡ 16 ^ slot_of q) where
    new_word : v + u ≡ old + 16 ^ slot_of q
    new_word = λ k. (ev ∙ ap (word_at w) ei) k + eu k

    pub made_fits : IsWordOf (key_at w i) (v + u)
    made_fits = subst (λ (x : ℕ). IsWordOf (key_at w x) (v + u)) (sym ei) (subst (λ (x : ℕ). IsWordOf (key_at w at) x) (sym new_word) enlivened_fits)

    pub made_states : (c : List Factor) → state_of (with_word w i (v + u)) c ≡ cond (same_cell c q) 1 (state_of w c)
    made_states c = ap (λ (x : PackedWords). state_of x c) (λ k. with_word w (ei k) (new_word k)) ∙ enlivened_states c

-- ---- the cells up to a number are alive as their flags say

abbrev pub AreSetTo : List (List Factor) → List Bool → List Key → PackedWords → ℕ → Type 0
AreSetTo cells flags keys w n = (w.keys ≡ keys) × ((c : List Factor) → state_of w c ≡ cond (nat_lt (number_of cells c) n && flag_of cells flags c) 1 0)

lt_true : (a b : ℕ) → a < b → nat_lt a b ≡ true
lt_true a b h = grind (arith, nat_tests)

lt_false : (a b : ℕ) → b ≤ a → nat_lt a b ≡ false
lt_false a b h = grind (arith, nat_tests)

module _ (cells : List (List Factor)) (flags : List Bool) (keys : List Key) where
  value_before : (n : ℕ) (c : List Factor) → number_of cells c < n → ◌≡◌ {A = ℕ} (cond (flag_of cells flags c) 1 0) (cond (nat_lt (number_of cells c) n && flag_of cells flags c) 1 0)
  value_before n c h = sym (ap (λ b. cond (b && flag_of cells flags c) 1 0) (lt_true (number_of cells c) n h))

  value_behind : (n : ℕ) (c : List Factor) → n ≤ number_of cells c → ◌≡◌ {A = ℕ} (cond (nat_lt (number_of cells c) n && flag_of cells flags c) 1 0) 0
  value_behind n c h = ap (λ b. cond (b && flag_of cells flags c) 1 0) (lt_false (number_of cells c) n h)

  pub set_first : (w : PackedWords) → w.keys ≡ keys → ((c : List Factor) → state_of w c ≡ 0) → AreSetTo cells flags keys w 0
  set_first w e none = (e, λ c. none c ∙ sym (value_behind 0 c (omega arith)))

  pub set_skip : (w : PackedWords) (n : ℕ) → slice_index_or flags n false ≡ false → AreSetTo cells flags keys w n → AreSetTo cells flags keys w (n + 1)
  set_skip w n off s = (
    s.0,
    λ c. s.1 c ∙ ⊎_elim
        (λ lt. sym (value_before n c lt) ∙ value_before (n + 1) c (omega arith))
        (λ ge. value_behind n c ge ∙ ⊎_elim
        (λ e. sym (ap (λ b. cond b 1 0) (ap (λ k. slice_index_or flags k false) e ∙ off)) ∙ value_before (n + 1) c (omega arith))
        (λ d. sym (value_behind (n + 1) c (omega arith)))
        (cases_eq (number_of cells c) n))
        (cases_lt (number_of cells c) n),
  )

  pub set_more : IsSortedCells cells → (w new : PackedWords) (n : ℕ) → n < length cells → slice_index_or flags n false ≡ true → AreSetTo cells flags keys w n
      → new.keys ≡ w.keys → ((c : List Factor) → state_of new c ≡ cond (same_cell c (cell_at cells n)) 1 (state_of w c)) → AreSetTo cells flags keys new (n + 1)
  set_more sorted w new n l on s ek es = (
    ek ∙ s.0,
    λ c. es c ∙ ⊎_elim
        (λ (e : c ≡ cell_at cells n).
        let num : number_of cells c ≡ n = ap (number_of cells) e ∙ number_at cells sorted n l in
        ap (λ b. cond b 1 (state_of w c)) (ap (λ x. same_cell x (cell_at cells n)) e ∙ cell_refl (cell_at cells n))
        ∙ sym (ap (λ b. cond b 1 0) (ap (λ k. slice_index_or flags k false) num ∙ on)) ∙ value_before (n + 1) c (omega arith))
        (λ f. ap (λ b. cond b 1 (state_of w c)) f ∙ s.1 c ∙ ⊎_elim
        (λ lt. sym (value_before n c lt) ∙ value_before (n + 1) c (omega arith))
        (λ ge. value_behind n c ge ∙ sym (value_behind (n + 1) c (⊎_elim
        (λ e. absurd (true≢false (sym (cell_refl c) ∙ ap (same_cell c) (sym (at_number cells sorted c (omega arith)) ∙ ap (cell_at cells) e) ∙ f)))
        (λ d. omega arith)
        (cases_eq (number_of cells c) n))))
        (cases_lt (number_of cells c) n))
        (cell_cases c (cell_at cells n)),
  )

  -- the cell of a number is not alive before its turn
  pub not_yet : IsSortedCells cells → (w : PackedWords) (n : ℕ) → n < length cells → AreSetTo cells flags keys w n → state_of w (cell_at cells n) ≡ 0
  not_yet sorted w n l s = s.1 (cell_at cells n) ∙ value_behind n (cell_at cells n) (let e = number_at cells sorted n l in omega arith)

  pub set_end : (w : PackedWords) (n : ℕ) → length flags ≤ n → AreSetTo cells flags keys w n → (c : List Factor) → state_of w c ≡ cond (flag_of cells flags c) 1 0
  set_end w n l s c = s.1 c ∙ ⊎_elim
      (λ lt. sym (value_before n c lt))
      (λ ge. value_behind n c ge ∙ sym (ap (λ b. cond b 1 0) (get_or_past flags (number_of cells c) false (omega arith))))
      (cases_lt (number_of cells c) n)

pub word_there : (cells : List (List Factor)) (keys now : List Key) (n : ℕ) (c : List Factor) → n < length cells → AreKeysOf cells keys → now ≡ keys → c ≡ cell_at cells n → place_of now (key_of c) < length now
word_there cells keys now n c l are e is = subst (λ (ks : List Key). place_of ks (key_of c) < length ks) (sym e) (key_there keys (key_of c) ((are (key_of c)).1 (n, l, sym (ap key_of is))))
