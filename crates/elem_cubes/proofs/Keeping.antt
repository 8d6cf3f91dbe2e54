-- What the fields of a cell say of its factors.
use Rattle.std.proofs.Common.{◌≡◌, ℕ, ◌-◌, ◌^◌, ◌<◌, ◌≤◌, refl, sym, ap, ◌∙◌, subst, arith, List, [], ◌∷◌, ◌++◌, length, take, get_or, set, replicate, Bool, true, false, IsTrue, ◌&&◌, nat_le, cond, eqb, ◌/◌, ◌%◌}
use Rattle.std.specs.Prelude.{ℤ, count_ones}
use Rattle.std.specs.List.{list_all}
use Rattle.std.specs.Int.{bit_at}
use Rattle.std.proofs.Math.Seq.{take-set-lt}
use Rattle.std.proofs.lemmas.List.{set-append_left, length-set}
use Rattle.std.proofs.lemmas.Bool.{leb-true}
use Rattle.elem_cubes.specs.declared.range.TheConstants.{MAX_EMBEDDING}
use Rattle.elem_cubes.specs.declared.packed.TheConstants.{PADDING}
use Rattle.elem_cubes.specs.Corners.{is_end, is_corner}
use Rattle.elem_cubes.specs.Cells.{Factor, point, interval, is_wide, is_factor, is_cell, lower_of, axes_of, cell_of, dimension_of}
use Rattle.elem_cubes.specs.Packed.{padded, KeepsCorner, KeepsCell}
use Rattle.elem_cubes.specs.KeepingLemmas.{lower-cell_of, length-cell_of, axes-cell_of}
use Rattle.elem_cubes.proofs.Conjunctions.{both, left, right, all_set}
use Rattle.elem_cubes.proofs.Bits.{ones_are_intervals, all_wide, wide_at}

-- the number of factors is 1 to the greatest
abbrev pub has_length : ℕ → Bool
has_length n = nat_le 1 n && nat_le n MAX_EMBEDDING

pub some_factors : (q : List Factor) → IsTrue (is_cell q) → 1 ≤ length q
some_factors q h = leb-true 1 (length q) (left (nat_le 1 (length q)) (nat_le (length q) MAX_EMBEDDING) (left (has_length (length q)) (list_all is_factor q) h))

pub not_many : (q : List Factor) → IsTrue (is_cell q) → length q ≤ MAX_EMBEDDING
not_many q h = leb-true (length q) MAX_EMBEDDING (right (nat_le 1 (length q)) (nat_le (length q) MAX_EMBEDDING) (left (has_length (length q)) (list_all is_factor q) h))

pub all_factors : (q : List Factor) → IsTrue (is_cell q) → IsTrue (list_all is_factor q)
all_factors q h = right (has_length (length q)) (list_all is_factor q) h

end_of_factor : (b : Bool) (l : ℤ) → IsTrue (is_factor (cond b (interval l) (point l))) → IsTrue (is_end l)
end_of_factor true l h = left (is_end l) _ h
end_of_factor false l h = left (is_end l) _ h

ends_of_factors : (ls : List ℤ) (a : ℕ) → IsTrue (list_all is_factor (cell_of ls a)) → IsTrue (list_all is_end ls)
ends_of_factors [] a h = refl
ends_of_factors (l ∷ ls) a h =
    let f : Factor = cond (eqb (a % 2) 1) (interval l) (point l) in
    both (is_end l) _ (end_of_factor (eqb (a % 2) 1) l (left (is_factor f) _ h)) (ends_of_factors ls (a / 2) (right (is_factor f) _ h))

-- the lower corner of a cell is a corner
pub corner_of_cell : (ls : List ℤ) (a : ℕ) → IsTrue (is_cell (cell_of ls a)) → IsTrue (is_corner ls)
corner_of_cell ls a h =
    let q = cell_of ls a in
    let P : ℕ → Type 0 = λ n. IsTrue (has_length n) in
    both (has_length (length ls)) (list_all is_end ls) (subst P (length-cell_of ls a) (left (has_length (length q)) _ h)) (ends_of_factors ls a (all_factors q h))

-- a corner and axes whose factors are in range make a cell
pub cell_of_corner : (ls : List ℤ) (a : ℕ) → IsTrue (is_corner ls) → IsTrue (list_all is_factor (cell_of ls a)) → IsTrue (is_cell (cell_of ls a))
cell_of_corner ls a h k =
    let q = cell_of ls a in
    let P : ℕ → Type 0 = λ n. IsTrue (has_length n) in
    both (has_length (length q)) (list_all is_factor q) (subst P (sym (length-cell_of ls a)) (left (has_length (length ls)) _ h)) k

module _ (ends : List ℤ) (len axes : ℕ) (q : List Factor) (k : KeepsCell ends len axes) (e : cell_of (take len ends) axes ≡ q) where
  pub len_kept : len ≡ length q
  len_kept = sym k.long ∙ sym (length-cell_of (take len ends) axes) ∙ ap length e

  pub lower_kept : take len ends ≡ lower_of q
  lower_kept = sym (lower-cell_of (take len ends) axes) ∙ ap lower_of e

  pub axes_small : axes < 2 ^ length (take len ends)
  axes_small = rw k.long k.few

  pub axes_kept : axes ≡ axes_of q
  axes_kept = sym (axes-cell_of (take len ends) axes axes_small) ∙ ap axes_of e

  pub axes_few : axes < 2 ^ length q
  axes_few = rw (sym len_kept) k.few

  pub parts_kept : q ≡ cell_of (lower_of q) axes
  parts_kept = sym e ∙ ap (λ ls. cell_of ls axes) lower_kept

  pub dimension_kept : count_ones axes ≡ dimension_of q
  dimension_kept = ones_are_intervals (take len ends) axes axes_small ∙ ap dimension_of e

  pub full_kept : eqb axes (2 ^ len - 1) ≡ list_all is_wide q
  full_kept = ap (λ n. eqb axes (2 ^ n - 1)) (sym k.long) ∙ all_wide (take len ends) axes axes_small ∙ ap (list_all is_wide) e

  pub wide_kept : (i : ℕ) (d : Factor) → i < length q → eqb (bit_at axes i) 1 ≡ is_wide (get_or q i d)
  wide_kept i d h = wide_at (take len ends) axes i d (omega (arith, k.long, len_kept)) ∙ ap (λ t. is_wide (get_or t i d)) e

  pub cell_kept : IsTrue (is_cell q)
  cell_kept = let P : List Factor → Type 0 = λ t. IsTrue (is_cell t) in subst P e k.cell

  pub corner_kept : KeepsCorner ends len
  corner_kept = record { long = k.long; rest = k.rest; corner = corner_of_cell (take len ends) axes k.cell }

  -- another factor in one place
  pub set_kept : (b i : ℕ) (l : ℤ) (f : Factor) → i < len → b < 2 ^ len → IsTrue (is_factor f)
      → cell_of (set (take len ends) i l) b ≡ set (cell_of (take len ends) axes) i f → KeepsCell (set ends i l) len b
  set_kept b i l f small few fits same =
      let ls = take len ends in
      let t : take len (set ends i l) ≡ set ls i l = take-set-lt len ends i l small in
      let n : length (set ls i l) ≡ length ls = length-set ls i l in
      let pad : set ends i l ≡ set ls i l ++ replicate (MAX_EMBEDDING - length ls) PADDING =
      ap (λ es. set es i l) k.rest ∙ set-append_left ls (replicate (MAX_EMBEDDING - length ls) PADDING) i l (omega (arith, k.long)) in
      let all : IsTrue (list_all is_factor (set (cell_of ls axes) i f)) = all_set is_factor (cell_of ls axes) i f (all_factors (cell_of ls axes) k.cell) fits in
      let P : ℕ → Type 0 = λ m. IsTrue (has_length m) in
      let m : length (set (cell_of ls axes) i f) ≡ length (cell_of ls axes) = length-set (cell_of ls axes) i f in
      let cell : IsTrue (is_cell (set (cell_of ls axes) i f)) = both (has_length (length (set (cell_of ls axes) i f))) _ (subst P (sym m) (left (has_length (length (cell_of ls axes))) _ k.cell)) all in
      let Q : List Factor → Type 0 = λ c. IsTrue (is_cell c) in
      record {
        long = ap length t ∙ n ∙ k.long;
        rest = pad ∙ ap (λ m. set ls i l ++ replicate (MAX_EMBEDDING - m) PADDING) (sym n) ∙ ap (padded MAX_EMBEDDING) (sym t);
        few = few;
        cell = subst Q (sym same ∙ ap (λ es. cell_of es b) (sym t)) cell;
      }

  pub set_seen : (b i : ℕ) (l : ℤ) (f : Factor) → i < len
      → cell_of (set (take len ends) i l) b ≡ set (cell_of (take len ends) axes) i f → cell_of (take len (set ends i l)) b ≡ set q i f
  set_seen b i l f small same = ap (λ es. cell_of es b) (take-set-lt len ends i l small) ∙ same ∙ ap (λ t. set t i f) e
