-- Where a key stands, and what its word says of a cell
use Rattle.std.proofs.Common.{◌≡◌, ℕ, zero, suc, ◌+◌, ◌*◌, ◌/◌, ◌%◌, ◌^◌, ◌-◌, ◌<◌, ◌≤◌, refl, sym, ap, ◌∙◌, arith, ⊎_elim, List, [], ◌∷◌, length, get_or, true, false, ◌&&◌, Result, Err, is_ok}
use Rattle.std.specs.Prelude.{nat_le, nat_lt, ℤ, pos, ◌+ℤ◌, Bool}
use Rattle.std.proofs.lemmas.Int.{ints}
use Rattle.std.specs.List.{list_all}
use Rattle.std.specs.List.Sorted.{IsStrictlySortedBy, IsBinarySearchResult, IsSearchInRange}
use Rattle.std.specs.Cmp.{IsTotalOrder, Equal-is, tied_itself}
use Rattle.std.specs.Ordering.{is_eq, ordering_reverse}
use Rattle.std.specs.declared.cmp.Ordering.TheVariants.{Less, Equal, Greater}
use Rattle.std.proofs.lemmas.Bool.{true≢false, and_from, and_parts, cases_Bool, cases_eq, cases_lt}
use Rattle.std.proofs.lemmas.Bool.Decides.{nat_tests}
use Rattle.std.proofs.lemmas.Cmp.{int_cmp_total, nat_cmp_total, lists_total, then_total, on_total}
use Rattle.std.proofs.lemmas.List.{length-map, get_or_past, get_or_default}
use Rattle.std.proofs.lemmas.List.Folds.{list_any_at}
use Rattle.std.proofs.lemmas.List.Sums.{position_or_len_is}
use Rattle.std.proofs.Math.Nat.{pow-succ'}
use Rattle.std.proofs.lemmas.Nat.{shr-shr}
use Rattle.std.proofs.lemmas.Map.Keys.{Less-from_sorted}
use Rattle.elem_cubes.specs.declared.range.TheConstants.{MAX_EMBEDDING}
use Rattle.elem_cubes.specs.Cells.{Factor, point, interval, low, is_factor, is_file_factor, is_cell, lower_of, axes_of, cell_of}
use Rattle.elem_cubes.specs.Corners.{is_end, is_file_end}
use Rattle.elem_cubes.proofs.Bits.{parts_of_cell}
use Rattle.cube_sets.specs.Sorted.{has}
use Rattle.cube_sets.proofs.Sorting.{search_has}
use Rattle.packed_words.specs.Words.{Key, PackedWords, AreWords, key_cmp, key_of, slot_of, place_of, no_key, key_at, nibble, state_of}
use Rattle.packed_words.proofs.Nibbles.{key_tied, key_placed, state_placed, nibble-zero, nibble_room}

-- ---- places

pub key_total : IsTotalOrder key_cmp
key_total = then_total (on_total (λ k. k.corner) (lists_total int_cmp_total)) (on_total (λ k. k.upper) nat_cmp_total)

pub key_same : (k l : Key) → key_cmp k l ≡ Equal → k ≡ l
key_same k l e = let t = key_tied k l e in λ i. record { corner = t.0 i; upper = t.1 i }

less_greater : Less ≡ Greater → ⊥
less_greater e = cc

less_equal : Less ≡ Equal → ⊥
less_equal e = cc

equal_greater : Equal ≡ Greater → ⊥
equal_greater e = cc

pub place_here : (keys : List Key) (k : Key) (i : ℕ) → IsStrictlySortedBy key_cmp keys → i < length keys → key_cmp (get_or keys i no_key) k ≡ Equal → place_of keys k ≡ i
place_here keys k i sorted l e = position_or_len_is (λ x. is_eq (key_cmp x k)) keys i no_key (omega arith)
    (λ j lt. let s = key_same (get_or keys i no_key) k e in ap is_eq (ap (λ (x : Key). key_cmp (get_or keys j no_key) x) (sym s) ∙ Less-from_sorted key_cmp keys j i no_key sorted lt l))
    (λ _. ap is_eq e)

pub place_missing : (keys : List Key) (k : Key) (at : ℕ) (r : Result ℕ ℕ) → r ≡ Err at → IsStrictlySortedBy key_cmp keys → IsSearchInRange r (length keys) → IsBinarySearchResult (λ y. key_cmp y k) keys r → place_of keys k ≡ length keys
place_missing keys k at r is sorted within found =
    let none : false ≡ has key_cmp keys k = sym (ap is_ok is) ∙ search_has key_cmp key_total keys k r sorted within found in
    position_or_len_is (λ x. is_eq (key_cmp x k)) keys (length keys) no_key (omega arith)
    (λ j l. ⊎_elim (λ t. absurd (true≢false (sym (list_any_at (λ x. is_eq (key_cmp x k)) keys j no_key l t) ∙ sym none))) (λ f. f) (cases_Bool (is_eq (key_cmp (get_or keys j no_key) k))))
    (λ l. absurd (omega arith))

-- a key that was read at a place, compared
pub key_read : (keys : List Key) (k : Key) (i : ℕ) (d : Key) → d ≡ get_or keys i d → i < length keys → key_cmp (get_or keys i no_key) k ≡ key_cmp d k
key_read keys k i d e l = ap (λ (x : Key). key_cmp x k) (get_or_default keys i no_key d l ∙ sym e)

-- a key above which the next one stands, and below which the one before, is not there
pub key_between : (keys : List Key) (k : Key) (i : ℕ) → IsStrictlySortedBy key_cmp keys → i < length keys → key_cmp (get_or keys i no_key) k ≡ Greater
    → (1 ≤ i → key_cmp (get_or keys (i - 1) no_key) k ≡ Less) → place_of keys k ≡ length keys
key_between keys k i sorted l high low = position_or_len_is (λ x. is_eq (key_cmp x k)) keys (length keys) no_key (omega arith)
    (λ j within. ⊎_elim (λ t. absurd (nowhere j within ((Equal-is (key_cmp (get_or keys j no_key) k)).0 t))) (λ f. f) (cases_Bool (is_eq (key_cmp (get_or keys j no_key) k))))
    (λ q. absurd (omega arith))
  where
    itself : (x : Key) → key_cmp x x ≡ Equal
    itself x = tied_itself key_total x

    other_way : (x y : Key) → key_cmp x y ≡ Less → key_cmp y x ≡ Greater
    other_way x y e = key_total.antisymm y x ∙ ap ordering_reverse e

    nowhere : (j : ℕ) → j < length keys → key_cmp (get_or keys j no_key) k ≡ Equal → ⊥
    nowhere j within e =
        let same = key_same (get_or keys j no_key) k e in
        ⊎_elim
        (λ (lt : i < j).
        let up = Less-from_sorted key_cmp keys i j no_key sorted lt within in
        let h : key_cmp (get_or keys i no_key) (get_or keys j no_key) ≡ Greater = ap (key_cmp (get_or keys i no_key)) same ∙ high in
        less_greater (sym up ∙ h))
        (λ (ge : j ≤ i). ⊎_elim
        (λ (q : j ≡ i). equal_greater (sym e ∙ ap (λ n. key_cmp (get_or keys n no_key) k) q ∙ high))
        (λ d.
        let h : key_cmp (get_or keys (i - 1) no_key) (get_or keys j no_key) ≡ Less = ap (key_cmp (get_or keys (i - 1) no_key)) same ∙ low (omega arith) in
        ⊎_elim
        (λ (q : j ≡ i - 1). less_equal (sym h ∙ ap (λ n. key_cmp (get_or keys n no_key) (get_or keys j no_key)) (sym q) ∙ itself (get_or keys j no_key)))
        (λ f.
        let up = Less-from_sorted key_cmp keys j (i - 1) no_key sorted (omega arith) (omega arith) in
        less_greater (sym h ∙ other_way (get_or keys j no_key) (get_or keys (i - 1) no_key) up))
        (cases_eq j (i - 1)))
        (cases_eq j i))
        (cases_lt i j)

-- ---- four bits

pub nibble_shift : (k w : ℕ) → nibble k w ≡ w / 2 ^ (4 * k) % 16
nibble_shift zero w = omega arith
nibble_shift (suc k) w =
    let e : 4 + 4 * k ≡ 4 * suc k = omega arith in
    nibble_shift k (w / 16) ∙ ap (λ x. x % 16) (shr-shr w 4 (4 * k) ∙ ap (λ n. w / 2 ^ n) e)

pub no_word : (w : PackedWords) (c : List Factor) → length w.words ≡ length w.keys → place_of w.keys (key_of c) ≡ length w.keys → 0 ≡ state_of w c
no_word w c e p = sym (ap (nibble (slot_of c)) (get_or_past w.words (place_of w.keys (key_of c)) 0 (omega arith)) ∙ nibble-zero (slot_of c))

-- ---- what is in the range of the files is in that of cells

all_weaker : {A : Type 0} (p q : A → Bool) (xs : List A) → ((x : A) → p x ≡ true → q x ≡ true)
    → list_all p xs ≡ true → list_all q xs ≡ true
all_weaker p q [] w h = refl
all_weaker p q (x ∷ xs) w h =
    let parts = and_parts (p x) (list_all p xs) h in
    and_from (q x) (list_all q xs) (w x parts.0) (all_weaker p q xs w parts.1)

end_wider : (z : ℤ) → is_file_end z ≡ true → is_end z ≡ true
end_wider z h = grind (arith, ints)

factor_wider : (f : Factor) → is_file_factor f ≡ true → is_factor f ≡ true
factor_wider (point l) h =
    let parts = and_parts (is_file_end l) (is_file_end l) h in
    and_from (is_end l) (is_end l) (end_wider l parts.0) (end_wider l parts.1)
factor_wider (interval l) h =
    let parts = and_parts (is_file_end l) (is_file_end (l +ℤ pos 1)) h in
    and_from (is_end l) (is_end (l +ℤ pos 1)) (end_wider l parts.0) (end_wider (l +ℤ pos 1) parts.1)

sized : (n : ℕ) → 1 ≤ n → n ≤ MAX_EMBEDDING → (nat_le 1 n && nat_le n MAX_EMBEDDING) ≡ true
sized n h k = and_from (nat_le 1 n) (nat_le n MAX_EMBEDDING) (grind (arith, nat_tests)) (grind (arith, nat_tests))

cell_fits : (q : List Factor) → 1 ≤ length q → length q ≤ MAX_EMBEDDING → list_all is_file_factor q ≡ true
    → is_cell q ≡ true
cell_fits q some few h =
    and_from (nat_le 1 (length q) && nat_le (length q) MAX_EMBEDDING) (list_all is_factor q)
    (sized (length q) some few) (all_weaker is_file_factor is_factor q factor_wider h)

-- ---- cells that have a state

pub record IsInTable (c : List Factor) : Type 0 where
  pub in_range : list_all is_file_factor c ≡ true
  pub axes : nat_lt (axes_of c) (2 ^ length (lower_of c)) ≡ true
  pub few : axes_of c < 64
  pub some : 1 ≤ length c
  pub cell : is_cell c ≡ true

-- the file's range lies within that of cells
pub state_in_table : (w : PackedWords) (c : List Factor) → AreWords w → 1 ≤ state_of w c → IsInTable c
state_in_table w c keeps h =
    let l = state_placed w c keeps.count h in
    let i = place_of w.keys (key_of c) in
    let k = key_placed w.keys (key_of c) l in
    let slot = slot_of c in
    let low_slot : slot < 16 = omega arith in
    let s = (keeps.fit i l).cells slot low_slot (λ z. omega arith) in
    let up : (key_at w i).upper + slot ≡ axes_of c = omega (arith, k.1) in
    let parts = and_parts (nat_lt ((key_at w i).upper + slot) (2 ^ length (key_at w i).corner)) (list_all is_file_factor (cell_of (key_at w i).corner ((key_at w i).upper + slot))) s in
    let corner = and_parts (nat_le 1 (length (key_at w i).corner) && nat_le (length (key_at w i).corner) MAX_EMBEDDING) (list_all is_end (key_at w i).corner) (keeps.corners i l) in
    let sizes = and_parts (nat_le 1 (length (key_at w i).corner)) (nat_le (length (key_at w i).corner) MAX_EMBEDDING) corner.0 in
    let same : length (key_at w i).corner ≡ length c = ap length k.0 ∙ length-map c low in
    let u = keeps.uppers i l in
    record {
      in_range = sym (ap (list_all is_file_factor) ((λ j. cell_of (k.0 j) (up j)) ∙ parts_of_cell c)) ∙ parts.1;
      axes = sym (λ j. nat_lt (up j) (2 ^ length (k.0 j))) ∙ parts.0;
      few = omega (arith, u.1, up);
      some = let a = sizes.0 in grind (arith, nat_tests);
      cell = cell_fits c (let a = sizes.0 in grind (arith, nat_tests)) (let a = sizes.1 in grind (arith, nat_tests)) (sym (ap (list_all is_file_factor) ((λ j. cell_of (k.0 j) (up j)) ∙ parts_of_cell c)) ∙ parts.1);
    }

-- ---- powers

pub power_small : (a : ℕ) → a < 16 → 16 ^ a < 18446744073709551616
power_small a h = let z = nibble-zero a in let r = nibble_room 16 a 1 0 h (omega arith) (omega arith) in omega arith

pub power_some : (a : ℕ) → 1 ≤ 16 ^ a
power_some zero = omega arith
power_some (suc a) = let e = pow-succ' 16 a in let h = power_some a in omega arith
