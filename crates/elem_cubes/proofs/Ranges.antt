-- Faces of cells in range are in range; full cubes compare by lower corner.
use Rattle.std.proofs.Common.{◌≡◌, ℕ, refl, sym, ap, ◌∙◌, subst, arith, ⊎_elim, List, [], ◌∷◌, length, Bool, IsTrue, ◌&&◌}
use Rattle.std.specs.Prelude.{ℤ, pos, ◌+ℤ◌, ◌<ℤ◌}
use Rattle.std.specs.List.{list_all}
use Rattle.std.specs.Cmp.{int_cmp_is}
use Rattle.std.specs.declared.cmp.Ordering.{Ordering}
use Rattle.std.specs.declared.cmp.Ordering.TheVariants.{Less, Equal, Greater}
use Rattle.std.specs.Ordering.{int_cmp, ordering_then}
use Rattle.std.proofs.lemmas.Cmp.{int_ranked, by_ranked}
use Rattle.std.proofs.lemmas.Int.{ints}
use Rattle.elem_cubes.specs.Corners.{is_end, is_file_end, corner_cmp}
use Rattle.elem_cubes.specs.Cells.{Factor, point, interval, low, high, is_cell, is_factor, lower_of, upper_of, full_cell}
use Rattle.elem_cubes.specs.Faces.{IsPart, IsFace}
use Rattle.elem_cubes.specs.Order.{cell_cmp}
use Rattle.elem_cubes.specs.Laws.{FacesStayInRange}
use Rattle.elem_cubes.proofs.Conjunctions.{both, left, right}
use Rattle.elem_cubes.proofs.FaceLemmas.{face_length}
use Rattle.elem_cubes.proofs.Keeping.{has_length, all_factors}

-- ---- faces

-- both ends of the factor pass the test
abbrev pub has_ends : (ℤ → Bool) → Factor → Bool
has_ends p f = p (low f) && p (high f)

part_range : (p : ℤ → Bool) (f g : Factor) → IsPart f g → IsTrue (has_ends p f) → IsTrue (has_ends p g)
part_range p (point l) (point m) e h = let P : ℤ → Type 0 = λ v. IsTrue (p v && p v) in subst P (sym e) h
part_range p (point l) (interval m) e h = absurd e
part_range p (interval l) (interval m) e h = let P : ℤ → Type 0 = λ v. IsTrue (p v && p (v +ℤ pos 1)) in subst P (sym e) h
part_range p (interval l) (point m) e h =
    let P : ℤ → Type 0 = λ v. IsTrue (p v && p v) in
    let a = left (p l) (p (l +ℤ pos 1)) h in
    let b = right (p l) (p (l +ℤ pos 1)) h in
    ⊎_elim (λ k. subst P (sym k) (both (p l) (p l) a a)) (λ k. subst P (sym k) (both (p (l +ℤ pos 1)) (p (l +ℤ pos 1)) b b)) e

pub face_range : (p : ℤ → Bool) (q r : List Factor) → IsFace q r → IsTrue (list_all (has_ends p) q) → IsTrue (list_all (has_ends p) r)
face_range p [] [] f h = refl
face_range p [] (r ∷ rs) f h = absurd f
face_range p (q ∷ qs) [] f h = absurd f
face_range p (q ∷ qs) (r ∷ rs) f h = both (has_ends p r) _ (part_range p q r f.0 (left (has_ends p q) _ h)) (face_range p qs rs f.1 (right (has_ends p q) _ h))

face_cell : (q r : List Factor) → IsFace q r → IsTrue (is_cell q) → IsTrue (is_cell r)
face_cell q r f h =
    let P : ℕ → Type 0 = λ n. IsTrue (has_length n) in
    both (has_length (length r)) (list_all is_factor r) (subst P (sym (face_length q r f)) (left (has_length (length q)) (list_all is_factor q) h)) (face_range is_end q r f (all_factors q h))

pub faces_stay_in_range : FacesStayInRange
faces_stay_in_range = record { cells = face_cell; files = face_range is_file_end }

-- ---- full cubes

shift_cmp : (l m : ℤ) → int_cmp (l +ℤ pos 1) (m +ℤ pos 1) ≡ int_cmp l m
shift_cmp l m = by_ranked (l <ℤ m) (l ≡ m) (m <ℤ l) (int_cmp l m) (int_ranked l m (int_cmp l m) refl)
    (λ e p. sym (int_cmp_is (l +ℤ pos 1) (m +ℤ pos 1) Less (omega (arith, ints))) ∙ sym e)
    (λ e p. sym (int_cmp_is (l +ℤ pos 1) (m +ℤ pos 1) Equal (ap (λ z. z +ℤ pos 1) p)) ∙ sym e)
    (λ e p. sym (int_cmp_is (l +ℤ pos 1) (m +ℤ pos 1) Greater (omega (arith, ints))) ∙ sym e)

uppers_cmp : (ls ms : List ℤ) → corner_cmp (upper_of (full_cell ls)) (upper_of (full_cell ms)) ≡ corner_cmp ls ms
uppers_cmp [] [] = refl
uppers_cmp [] (m ∷ ms) = refl
uppers_cmp (l ∷ ls) [] = refl
uppers_cmp (l ∷ ls) (m ∷ ms) = λ i. ordering_then (shift_cmp l m i) (uppers_cmp ls ms i)

lower-full : (ls : List ℤ) → lower_of (full_cell ls) ≡ ls
lower-full [] = refl
lower-full (l ∷ ls) = ap (λ xs. l ∷ xs) (lower-full ls)

then_itself : (o : Ordering) → ordering_then o o ≡ o
then_itself Less = refl
then_itself Equal = refl
then_itself Greater = refl

pub full_cmp : (ls ms : List ℤ) → cell_cmp (full_cell ls) (full_cell ms) ≡ corner_cmp ls ms
full_cmp ls ms = (λ i. ordering_then (corner_cmp (lower-full ls i) (lower-full ms i)) (uppers_cmp ls ms i)) ∙ then_itself (corner_cmp ls ms)
