-- Faces: the test, and that being a face is an order.
use Rattle.std.proofs.Common.{◌≡◌, ◌⊎◌, inl, inr, ⊎_elim, refl, sym, ap, ◌∙◌, suc, List, [], ◌∷◌, length, Bool, true, false, ◌||◌, true≢false}
use Rattle.std.specs.Prelude.{pos, ◌+ℤ◌}
use Rattle.std.specs.Bool.{Decides}
use Rattle.std.specs.Ordering.{int_eq}
use Rattle.std.proofs.lemmas.Bool.Decides.{Decides-int_eq}
use Rattle.elem_cubes.specs.Cells.{Factor, point, interval}
use Rattle.elem_cubes.specs.Faces.{IsPart, IsFace, is_part, is_face}
use Rattle.elem_cubes.specs.Laws.{FacesAreTransitive}
use Rattle.elem_cubes.proofs.Conjunctions.{both, left, right}

either : (a b : Bool) → (a || b) ≡ true → (a ≡ true) ⊎ (b ≡ true)
either true b h = inl refl
either false b h = inr h

or_left : (a b : Bool) → a ≡ true → (a || b) ≡ true
or_left true b h = refl
or_left false b h = absurd (true≢false (sym h))

or_right : (a b : Bool) → b ≡ true → (a || b) ≡ true
or_right true b h = refl
or_right false b h = h

pub part-Decides : (q r : Factor) → Decides (is_part q r) (IsPart q r)
part-Decides (point l) (point m) = Decides-int_eq m l
part-Decides (point l) (interval m) = (λ e. true≢false (sym e), λ z. absurd z)
part-Decides (interval l) (interval m) = Decides-int_eq m l
part-Decides (interval l) (point m) = (
  λ e. ⊎_elim (λ h. inl ((Decides-int_eq m l).0 h)) (λ h. inr ((Decides-int_eq m (l +ℤ pos 1)).0 h)) (either (int_eq m l) (int_eq m (l +ℤ pos 1)) e),
  λ p. ⊎_elim (λ h. or_left (int_eq m l) (int_eq m (l +ℤ pos 1)) ((Decides-int_eq m l).1 h)) (λ h. or_right (int_eq m l) (int_eq m (l +ℤ pos 1)) ((Decides-int_eq m (l +ℤ pos 1)).1 h)) p,
)

pub face-Decides : (q r : List Factor) → Decides (is_face q r) (IsFace q r)
face-Decides [] [] = (λ e. tt, λ f. refl)
face-Decides [] (r ∷ rs) = (λ e. true≢false (sym e), λ z. absurd z)
face-Decides (q ∷ qs) [] = (λ e. true≢false (sym e), λ z. absurd z)
face-Decides (q ∷ qs) (r ∷ rs) = (
  λ e. ((part-Decides q r).0 (left (is_part q r) (is_face qs rs) e), (face-Decides qs rs).0 (right (is_part q r) (is_face qs rs) e)),
  λ f. both (is_part q r) (is_face qs rs) ((part-Decides q r).1 f.0) ((face-Decides qs rs).1 f.1),
)

pub part_refl : (q : Factor) → IsPart q q
part_refl (point l) = refl
part_refl (interval l) = refl

pub face_refl : (q : List Factor) → IsFace q q
face_refl [] = tt
face_refl (q ∷ qs) = (part_refl q, face_refl qs)

pub face_length : (q r : List Factor) → IsFace q r → length r ≡ length q
face_length [] [] f = refl
face_length [] (r ∷ rs) f = absurd f
face_length (q ∷ qs) [] f = absurd f
face_length (q ∷ qs) (r ∷ rs) f = ap suc (face_length qs rs f.1)

part_trans : (q r s : Factor) → IsPart q r → IsPart r s → IsPart q s
part_trans (point l) (point m) (point n) e f = f ∙ e
part_trans (point l) (point m) (interval n) e f = f
part_trans (point l) (interval m) s e f = absurd e
part_trans (interval l) (point m) (point n) e f = ⊎_elim (λ h. inl (f ∙ h)) (λ h. inr (f ∙ h)) e
part_trans (interval l) (point m) (interval n) e f = absurd f
part_trans (interval l) (interval m) (point n) e f = ⊎_elim (λ h. inl (h ∙ e)) (λ h. inr (h ∙ ap (λ z. z +ℤ pos 1) e)) f
part_trans (interval l) (interval m) (interval n) e f = f ∙ e

pub face_trans : (q r s : List Factor) → IsFace q r → IsFace r s → IsFace q s
face_trans [] [] [] e f = tt
face_trans [] [] (s ∷ ss) e f = f
face_trans [] (r ∷ rs) s e f = absurd e
face_trans (q ∷ qs) [] s e f = absurd e
face_trans (q ∷ qs) (r ∷ rs) [] e f = absurd f
face_trans (q ∷ qs) (r ∷ rs) (s ∷ ss) e f = (part_trans q r s e.0 f.0, face_trans qs rs ss e.1 f.1)

part_both : (q r : Factor) → IsPart q r → IsPart r q → q ≡ r
part_both (point l) (point m) e f = ap point f
part_both (point l) (interval m) e f = absurd e
part_both (interval l) (point m) e f = absurd f
part_both (interval l) (interval m) e f = ap interval f

pub face_both : (q r : List Factor) → IsFace q r → IsFace r q → q ≡ r
face_both [] [] e f = refl
face_both [] (r ∷ rs) e f = absurd e
face_both (q ∷ qs) [] e f = absurd e
face_both (q ∷ qs) (r ∷ rs) e f = λ i. part_both q r e.0 f.0 i ∷ face_both qs rs e.1 f.1 i

pub faces_are_transitive : FacesAreTransitive
faces_are_transitive = record { itself = face_refl; both = face_both; further = face_trans }
