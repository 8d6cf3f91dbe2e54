-- Four bits of a word, and the place of a key.
use Rattle.std.proofs.Common.{◌≡◌, ◌≢◌, ℕ, zero, suc, ◌+◌, ◌*◌, ◌/◌, ◌^◌, ◌<◌, ◌≤◌, refl, sym, ap, ◌∙◌, arith, ⊎_elim, List, length, get_or}
use Rattle.std.specs.Cmp.{Equal-is}
use Rattle.std.specs.Ordering.{is_eq, ordering_then, nat_cmp}
use Rattle.std.specs.declared.cmp.Ordering.{Ordering}
use Rattle.std.specs.declared.cmp.Ordering.TheVariants.{Less, Equal, Greater}
use Rattle.std.proofs.lemmas.Bool.{true≢false, cases_lt, eqb-true}
use Rattle.std.proofs.lemmas.List.{get_or_past}
use Rattle.std.proofs.lemmas.List.Sums.{passes_at_first}
use Rattle.std.specs.Cmp.{unsigned_tied}
use Rattle.std.proofs.Math.Nat.{pow-succ'}
use Rattle.elem_cubes.specs.Corners.{corner_cmp}
use Rattle.elem_cubes.specs.Cells.{Factor, lower_of, axes_of, cell_of}
use Rattle.elem_cubes.specs.OrderLemmas.{tied_lists}
use Rattle.elem_cubes.proofs.Bits.{parts_of_cell}
use Rattle.packed_words.specs.Words.{Key, PackedWords, key_cmp, key_of, slot_of, place_of, no_key, nibble, state_of}

-- ---- four bits of a word

pub nibble-zero : (k : ℕ) → nibble k 0 ≡ 0
nibble-zero zero = refl
nibble-zero (suc k) = nibble-zero k

-- d added to the a-th four bits, where there is room
pub nibble_add_here : (a d w : ℕ) → nibble a w + d < 16 → nibble a (w + d * 16 ^ a) ≡ nibble a w + d
nibble_add_here zero d w h = omega arith
nibble_add_here (suc a) d w h =
    let x = d * 16 ^ a in
    let e : d * 16 ^ suc a ≡ 16 * x = ap (λ v. d * v) (pow-succ' 16 a) ∙ omega arith in
    let k : (w + d * 16 ^ suc a) / 16 ≡ w / 16 + x = omega arith in
    ap (nibble a) k ∙ nibble_add_here a d (w / 16) h

pub nibble_add_other : (a k d w : ℕ) → nibble a w + d < 16 → k ≢ a → nibble k (w + d * 16 ^ a) ≡ nibble k w
nibble_add_other zero zero d w h n = absurd (n refl)
nibble_add_other zero (suc k) d w h n = let e : (w + d * 16 ^ 0) / 16 ≡ w / 16 = omega arith in ap (nibble k) e
nibble_add_other (suc a) zero d w h n =
    let x = d * 16 ^ a in
    let e : d * 16 ^ suc a ≡ 16 * x = ap (λ v. d * v) (pow-succ' 16 a) ∙ omega arith in
    omega arith
nibble_add_other (suc a) (suc k) d w h n =
    let x = d * 16 ^ a in
    let e : d * 16 ^ suc a ≡ 16 * x = ap (λ v. d * v) (pow-succ' 16 a) ∙ omega arith in
    let u : (w + d * 16 ^ suc a) / 16 ≡ w / 16 + x = omega arith in
    ap (nibble k) u ∙ nibble_add_other a k d (w / 16) h (λ q. n (ap suc q))

pub nibble_room : (n a d w : ℕ) → a < n → w < 16 ^ n → nibble a w + d < 16 → w + d * 16 ^ a < 16 ^ n
nibble_room zero a d w l h k = absurd (omega arith)
nibble_room (suc n) zero d w l h k =
    let e = pow-succ' 16 n in
    omega arith
nibble_room (suc n) (suc a) d w l h k =
    let x = d * 16 ^ a in
    let e : d * 16 ^ suc a ≡ 16 * x = ap (λ v. d * v) (pow-succ' 16 a) ∙ omega arith in
    let f = pow-succ' 16 n in
    let i : w / 16 + x < 16 ^ n = nibble_room n a d (w / 16) (omega arith) (omega arith) k in
    omega arith

-- ---- keys

first_tied : (o r : Ordering) → ordering_then o r ≡ Equal → (o ≡ Equal) × (r ≡ Equal)
first_tied Less r e = absurd (true≢false (sym (ap is_eq e)))
first_tied Equal r e = (refl, e)
first_tied Greater r e = absurd (true≢false (sym (ap is_eq e)))

pub key_tied : (k l : Key) → key_cmp k l ≡ Equal → (k.corner ≡ l.corner) × (k.upper ≡ l.upper)
key_tied k l e =
    let t = first_tied (corner_cmp k.corner l.corner) (nat_cmp k.upper l.upper) e in
    (tied_lists k.corner l.corner t.0, eqb-true k.upper l.upper (sym (unsigned_tied k.upper l.upper) ∙ ap is_eq t.1))

pub key_placed : (keys : List Key) (k : Key) → place_of keys k < length keys → ((get_or keys (place_of keys k) no_key).corner ≡ k.corner) × ((get_or keys (place_of keys k) no_key).upper ≡ k.upper)
key_placed keys k l = key_tied (get_or keys (place_of keys k) no_key) k ((Equal-is (key_cmp (get_or keys (place_of keys k) no_key) k)).0 (passes_at_first (λ x. is_eq (key_cmp x k)) keys no_key l))

-- a cell that has a state is in the table
pub state_placed : (w : PackedWords) (c : List Factor) → length w.words ≡ length w.keys → 1 ≤ state_of w c → place_of w.keys (key_of c) < length w.keys
state_placed w c e a = ⊎_elim (λ l. l) (λ l. let z = ap (nibble (slot_of c)) (get_or_past w.words (place_of w.keys (key_of c)) 0 (omega arith)) ∙ nibble-zero (slot_of c) in absurd (omega arith)) (cases_lt (place_of w.keys (key_of c)) (length w.keys))

-- a cell is known by its lower corner and its axes
pub known : (a b : List Factor) → lower_of a ≡ lower_of b → axes_of a ≡ axes_of b → a ≡ b
known a b e f = sym (parts_of_cell a) ∙ (λ i. cell_of (e i) (f i)) ∙ parts_of_cell b

-- and so by its key and its slot
pub known_by_key : (a b : List Factor) → lower_of a ≡ lower_of b → 16 * (axes_of a / 16) ≡ 16 * (axes_of b / 16) → slot_of a ≡ slot_of b → a ≡ b
known_by_key a b e u s = known a b e (omega arith)
