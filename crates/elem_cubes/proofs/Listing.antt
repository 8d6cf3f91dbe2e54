-- The lists of faces, cofaces and the closure have exactly what they should, each once.
use Rattle.std.proofs.Common.{◌≡◌, ℕ, ◌+◌, ◌-◌, ◌*◌, ◌<◌, ◌≤◌, ◌⊎◌, inl, inr, ⊎_elim, refl, sym, ap, ◌∙◌, subst, arith, List, [], ◌∷◌, ◌++◌, length, get_or, map}
use Rattle.std.specs.Prelude.{ℤ, pos, negsuc, neg_ℤ, ◌+ℤ◌}
use Rattle.std.specs.List.{flat_map}
use Rattle.std.proofs.lemmas.List.{length-map}
use Rattle.std.proofs.lemmas.Int.{ints}
use Rattle.field_mod.specs.Modular.{Same}
use Rattle.field_mod.proofs.Modular.{same_trans, same_sym, same-scale}
use Rattle.elem_cubes.specs.Cells.{Factor, point, interval, dimension_of}
use Rattle.elem_cubes.specs.Faces.{IsPart, IsFace, IsFacet, turned, behind, changed, ends_of, intervals_at, faces_of, cofaces_of, parts_of, closure_of}
use Rattle.elem_cubes.specs.Boundary.{residue, boundary_coefficient}
use Rattle.elem_cubes.specs.Laws.{FacesAreFacets, CofacesAreAll, ClosuresAreFaces}
use Rattle.elem_cubes.proofs.Conjunctions.{get_or-map}
use Rattle.elem_cubes.proofs.FaceLemmas.{part_refl, face_refl, face_trans}
use Rattle.elem_cubes.proofs.Members.{In, In-from, from-In, In-map, map-In, In-append, left-In, right-In, In-flat, flat-In, Apart, apart_places, apart-append, apart-map}
use Rattle.elem_cubes.proofs.Modular.{exact, residue_neg}
use Rattle.elem_cubes.proofs.Signs.{face_equal, upper_coefficient, lower_coefficient, point_coefficient, interval_coefficient, sum_over_faces}
use Rattle.elem_cubes.proofs.Zeros.{face_or_zero}

-- ---- one factor is changed

-- the second cell is the first with one factor changed, with the sign s
abbrev pub IsChanged : (Factor → List (Factor × ℤ)) → List Factor → List Factor → ℤ → Type 0
IsChanged change [] rs s = ⊥
IsChanged change (f ∷ fs) [] s = ⊥
IsChanged change (f ∷ fs) (g ∷ gs) s = (In (change f) (g, s) × (fs ≡ gs)) ⊎ ((f ≡ g) × ((t : ℤ) × (IsChanged change fs gs t × (s ≡ turned f t))))

-- another head
abbrev pub headed : List Factor → Factor × ℤ → List Factor × ℤ
headed fs e = (e.0 ∷ fs, e.1)

changed-In : (change : Factor → List (Factor × ℤ)) (q : List Factor) (g : List Factor × ℤ) → In (changed change q) g → IsChanged change q g.0 g.1
changed-In change [] g h = absurd h
changed-In change (f ∷ fs) g h =
    let P : List Factor × ℤ → Type 0 = λ v. IsChanged change (f ∷ fs) v.0 v.1 in
    ⊎_elim
    (λ k. let c = In-map (headed fs) (change f) g k in subst P c.2 (inl (c.1, refl)))
    (λ k. let c = In-map (behind f) (changed change fs) g k in subst P c.2 (inr (refl, (c.0.1, (changed-In change fs c.0 c.1, refl)))))
    (In-append (map (headed fs) (change f)) (map (behind f) (changed change fs)) g h)

In-changed : (change : Factor → List (Factor × ℤ)) (q r : List Factor) (s : ℤ) → IsChanged change q r s → In (changed change q) (r, s)
In-changed change [] r s h = absurd h
In-changed change (f ∷ fs) [] s h = absurd h
In-changed change (f ∷ fs) (g ∷ gs) s (inl h) =
    let P : List Factor → Type 0 = λ v. In (changed change (f ∷ fs)) (g ∷ v, s) in
    subst P h.1 (left-In (map (headed fs) (change f)) (map (behind f) (changed change fs)) (g ∷ fs, s) (map-In (headed fs) (change f) (g, s) h.0))
In-changed change (f ∷ fs) (g ∷ gs) s (inr h) =
    let P : List Factor × ℤ → Type 0 = λ v. In (changed change (f ∷ fs)) v in
    let t = h.1.0 in
    subst P (λ i. (h.0 i ∷ gs, sym h.1.1.1 i)) (right-In (map (headed fs) (change f)) (map (behind f) (changed change fs)) (f ∷ gs, turned f t) (map-In (behind f) (changed change fs) (gs, t) (In-changed change fs gs t h.1.1.0)))

-- ---- ends and intervals

flip_end : (f g : Factor) (s : ℤ) → In (ends_of f) (g, s) → In (intervals_at g) (f, s)
flip_end (point l) g s h = absurd h
flip_end (interval l) g s h =
    let P : Factor × ℤ → Type 0 = λ v. In (intervals_at v.0) (interval l, v.1) in
    let back : l +ℤ pos 1 +ℤ negsuc 0 ≡ l = omega (arith, ints) in
    ⊎_elim (λ e. subst P e (inr (inl (λ i. (interval (back i), pos 1))))) (λ k. ⊎_elim (λ e. subst P e (inl refl)) (λ z. absurd z) k) h

flip_interval : (g f : Factor) (s : ℤ) → In (intervals_at g) (f, s) → In (ends_of f) (g, s)
flip_interval (interval m) f s h = absurd h
flip_interval (point m) f s h =
    let P : Factor × ℤ → Type 0 = λ v. In (ends_of v.0) (point m, v.1) in
    let back : m +ℤ negsuc 0 +ℤ pos 1 ≡ m = omega (arith, ints) in
    ⊎_elim (λ e. subst P e (inr (inl refl))) (λ k. ⊎_elim (λ e. subst P e (inl (λ i. (point (back i), pos 1)))) (λ z. absurd z) k) h

-- a coface is a face read backwards
flip_up : (q r : List Factor) (s : ℤ) → IsChanged ends_of q r s → IsChanged intervals_at r q s
flip_up [] r s h = absurd h
flip_up (f ∷ fs) [] s h = absurd h
flip_up (f ∷ fs) (g ∷ gs) s (inl h) = inl (flip_end f g s h.0, sym h.1)
flip_up (f ∷ fs) (g ∷ gs) s (inr h) = inr (sym h.0, (h.1.0, (flip_up fs gs h.1.0 h.1.1.0, h.1.1.1 ∙ ap (λ x. turned x h.1.0) h.0)))

flip_down : (r q : List Factor) (s : ℤ) → IsChanged intervals_at r q s → IsChanged ends_of q r s
flip_down [] q s h = absurd h
flip_down (g ∷ gs) [] s h = absurd h
flip_down (g ∷ gs) (f ∷ fs) s (inl h) = inl (flip_interval g f s h.0, sym h.1)
flip_down (g ∷ gs) (f ∷ fs) s (inr h) = inr (sym h.0, (h.1.0, (flip_down gs fs h.1.0 h.1.1.0, h.1.1.1 ∙ ap (λ x. turned x h.1.0) h.0)))

-- ---- facets

end_facet : (f g : Factor) (s : ℤ) (gs : List Factor) → In (ends_of f) (g, s) → IsPart f g × (dimension_of (g ∷ gs) + 1 ≡ dimension_of (f ∷ gs))
end_facet (point l) g s gs h = absurd h
end_facet (interval l) g s gs h =
    let P : Factor × ℤ → Type 0 = λ v. IsPart (interval l) v.0 × (dimension_of (v.0 ∷ gs) + 1 ≡ dimension_of gs + 1) in
    ⊎_elim (λ e. subst P e (inr refl, refl)) (λ k. ⊎_elim (λ e. subst P e (inl refl, refl)) (λ z. absurd z) k) h

same_front : (f : Factor) (fs gs : List Factor) → dimension_of gs + 1 ≡ dimension_of fs → dimension_of (f ∷ gs) + 1 ≡ dimension_of (f ∷ fs)
same_front (point l) fs gs e = e
same_front (interval l) fs gs e = ap (λ n. n + 1) e

facet_from : (q r : List Factor) (s : ℤ) → IsChanged ends_of q r s → IsFacet q r
facet_from [] r s h = absurd h
facet_from (f ∷ fs) [] s h = absurd h
facet_from (f ∷ fs) (g ∷ gs) s (inl h) =
    let P : List Factor → Type 0 = λ v. IsFacet (f ∷ v) (g ∷ gs) in
    let e = end_facet f g s gs h.0 in
    subst P (sym h.1) ((e.0, face_refl gs), e.1)
facet_from (f ∷ fs) (g ∷ gs) s (inr h) =
    let P : Factor → Type 0 = λ v. IsFacet (f ∷ fs) (v ∷ gs) in
    let k = facet_from fs gs h.1.0 h.1.1.0 in
    subst P h.0 ((part_refl f, k.0), same_front f fs gs k.1)

pub facet_sign : (q r : List Factor) → IsFacet q r → (s : ℤ) × IsChanged ends_of q r s
facet_sign [] [] h = absurd (omega (arith, h.1))
facet_sign [] (r ∷ rs) h = absurd h.0
facet_sign (q ∷ qs) [] h = absurd h.0
facet_sign (point l ∷ qs) (interval m ∷ rs) h = absurd h.0.0
facet_sign (point l ∷ qs) (point m ∷ rs) h = let k = facet_sign qs rs (h.0.1, h.1) in (k.0, inr (ap point (sym h.0.0), (k.0, (k.1, refl))))
facet_sign (interval l ∷ qs) (interval m ∷ rs) h = let k = facet_sign qs rs (h.0.1, omega (arith, h.1)) in (neg_ℤ k.0, inr (ap interval (sym h.0.0), (k.0, (k.1, refl))))
facet_sign (interval l ∷ qs) (point m ∷ rs) h =
    let e : qs ≡ rs = face_equal qs rs h.0.1 (omega (arith, h.1)) in
    ⊎_elim
    (λ k. (negsuc 0, inl (inr (inl (λ i. (point (sym k i), negsuc 0))), e)))
    (λ k. (pos 1, inl (inl (λ i. (point (sym k i), pos 1)), e)))
    h.0.0

end_sign : (p : ℕ) (f g : Factor) (s : ℤ) (fs gs : List Factor) → fs ≡ gs → In (ends_of f) (g, s) → Same p (boundary_coefficient p (f ∷ fs) (g ∷ gs)) (residue p s)
end_sign p (point l) g s fs gs e h = absurd h
end_sign p (interval l) g s fs gs e h =
    let P : Factor × ℤ → Type 0 = λ v. Same p (boundary_coefficient p (interval l ∷ fs) (v.0 ∷ gs)) (residue p v.1) in
    ⊎_elim
    (λ k. subst P k (exact p (upper_coefficient p l (l +ℤ pos 1) fs gs e refl)))
    (λ k. ⊎_elim (λ j. subst P j (exact p (lower_coefficient p l l fs gs e refl ∙ (let z : p - 1 ≡ (p - 1) * (0 + 1) = omega arith in z)))) (λ z. absurd z) k)
    h

front_sign : (p : ℕ) (f : Factor) (fs gs : List Factor) (t : ℤ) → 1 ≤ p → Same p (boundary_coefficient p fs gs) (residue p t) → Same p (boundary_coefficient p (f ∷ fs) (f ∷ gs)) (residue p (turned f t))
front_sign p (point l) fs gs t h k = same_trans (exact p (point_coefficient p l l fs gs refl)) k
front_sign p (interval l) fs gs t h k = same_trans (exact p (interval_coefficient p l l fs gs refl)) (same_trans (same-scale (p - 1) k) (same_sym (residue_neg p t h)))

pub sign_from : (p : ℕ) (q r : List Factor) (s : ℤ) → 1 ≤ p → IsChanged ends_of q r s → Same p (boundary_coefficient p q r) (residue p s)
sign_from p [] r s h k = absurd k
sign_from p (f ∷ fs) [] s h k = absurd k
sign_from p (f ∷ fs) (g ∷ gs) s h (inl k) = end_sign p f g s fs gs k.1 k.0
sign_from p (f ∷ fs) (g ∷ gs) s h (inr k) =
    let P : Factor × ℤ → Type 0 = λ v. Same p (boundary_coefficient p (f ∷ fs) (v.0 ∷ gs)) (residue p v.1) in
    subst P (λ i. (k.0 i, sym k.1.1.1 i)) (front_sign p f fs gs k.1.0 h (sign_from p fs gs k.1.0 h k.1.1.0))

-- ---- each once

abbrev pub firsts : {X Y : Type 0} → List (X × Y) → List X
firsts = map (λ e. e.0)

firsts-append : {X Y : Type 0} (xs ys : List (X × Y)) → firsts (xs ++ ys) ≡ firsts xs ++ firsts ys
firsts-append [] ys = refl
firsts-append (x ∷ xs) ys = ap (λ zs. x.0 ∷ zs) (firsts-append xs ys)

firsts-headed : (fs : List Factor) (es : List (Factor × ℤ)) → firsts (map (headed fs) es) ≡ map (λ g. g ∷ fs) (firsts es)
firsts-headed fs [] = refl
firsts-headed fs (e ∷ es) = ap (λ zs. (e.0 ∷ fs) ∷ zs) (firsts-headed fs es)

firsts-behind : (f : Factor) (gs : List (List Factor × ℤ)) → firsts (map (behind f) gs) ≡ map (λ rs. f ∷ rs) (firsts gs)
firsts-behind f [] = refl
firsts-behind f (g ∷ gs) = ap (λ zs. (f ∷ g.0) ∷ zs) (firsts-behind f gs)

same_head : (f g : Factor) (fs gs : List Factor) → ◌≡◌ {A = List Factor} (f ∷ fs) (g ∷ gs) → f ≡ g
same_head f g fs gs e = cc

same_tail : (f g : Factor) (fs gs : List Factor) → ◌≡◌ {A = List Factor} (f ∷ fs) (g ∷ gs) → fs ≡ gs
same_tail f g fs gs e = cc

-- the changes of a factor differ from each other and from the factor
pub record Differ (change : Factor → List (Factor × ℤ)) : Type 0 where
  pub apart : (f : Factor) → Apart (firsts (change f))
  pub other : (f : Factor) → In (firsts (change f)) f → ⊥

apart_changed : (change : Factor → List (Factor × ℤ)) → Differ change → (q : List Factor) → Apart (firsts (changed change q))
apart_changed change d [] = tt
apart_changed change d (f ∷ fs) =
    let heads = map (λ (g : Factor). g ∷ fs) (firsts (change f)) in
    let tails = map (λ (rs : List Factor). f ∷ rs) (firsts (changed change fs)) in
    let e : firsts (changed change (f ∷ fs)) ≡ heads ++ tails =
    firsts-append (map (headed fs) (change f)) (map (behind f) (changed change fs)) ∙ (λ i. firsts-headed fs (change f) i ++ firsts-behind f (changed change fs) i) in
    let P : List (List Factor) → Type 0 = λ v. Apart v in
    subst P (sym e) (apart-append heads tails
    (apart-map (λ (g : Factor). g ∷ fs) (firsts (change f)) (λ x z k. same_head x z fs fs k) (d.apart f))
    (apart-map (λ (rs : List Factor). f ∷ rs) (firsts (changed change fs)) (λ x z k. same_tail f f x z k) (apart_changed change d fs))
    (λ x h k.
    let a = In-map (λ (g : Factor). g ∷ fs) (firsts (change f)) x h in
    let b = In-map (λ (rs : List Factor). f ∷ rs) (firsts (changed change fs)) x k in
    let s : a.0 ≡ f = same_head a.0 f fs b.0 (a.2 ∙ sym b.2) in
    let Q : Factor → Type 0 = λ v. In (firsts (change f)) v in
    d.other f (subst Q s a.1)))

pub once_changed : (change : Factor → List (Factor × ℤ)) → Differ change → (q : List Factor) (d : List Factor × ℤ) (i j : ℕ) → i < length (changed change q) → j < length (changed change q)
    → (get_or (changed change q) i d).0 ≡ (get_or (changed change q) j d).0 → i ≡ j
once_changed change a q d i j h k e =
    let gs = changed change q in
    let n : length (firsts gs) ≡ length gs = length-map gs (λ e. e.0) in
    apart_places (firsts gs) i j d.0 (apart_changed change a q) (omega arith) (omega arith)
    (get_or-map (λ (e : List Factor × ℤ). e.0) gs i d ∙ e ∙ sym (get_or-map (λ (e : List Factor × ℤ). e.0) gs j d))

differ_ends : Differ ends_of
differ_ends = record { apart = apart; other = other }
  where
    apart : (f : Factor) → Apart (firsts (ends_of f))
    apart (point l) = tt
    apart (interval l) = (λ h. ⊎_elim (λ e. let k : l ≡ l +ℤ pos 1 = cc in absurd (omega (arith, ints))) (λ z. z) h, ((λ z. z), tt))

    other : (f : Factor) → In (firsts (ends_of f)) f → ⊥
    other (point l) h = h
    other (interval l) h = ⊎_elim (λ e. cc) (λ k. ⊎_elim (λ e. cc) (λ z. z) k) h

differ_intervals : Differ intervals_at
differ_intervals = record { apart = apart; other = other }
  where
    apart : (f : Factor) → Apart (firsts (intervals_at f))
    apart (interval m) = tt
    apart (point m) = (λ h. ⊎_elim (λ e. let k : m +ℤ negsuc 0 ≡ m = cc in absurd (omega (arith, ints))) (λ z. z) h, ((λ z. z), tt))

    other : (f : Factor) → In (firsts (intervals_at f)) f → ⊥
    other (interval m) h = h
    other (point m) h = ⊎_elim (λ e. cc) (λ k. ⊎_elim (λ e. cc) (λ z. z) k) h

-- ---- the laws

pub faces_are_facets : FacesAreFacets
faces_are_facets = record {
  facets = λ q r s h. facet_from q r s (changed-In ends_of q (r, s) (In-from (faces_of q) (r, s) h));
  all = λ q r h. let k = facet_sign q r h in (k.0, from-In (faces_of q) (r, k.0) (In-changed ends_of q r k.0 k.1));
  once = λ q d i j. once_changed ends_of differ_ends q d i j;
  signs = λ p q r s h k. sign_from p q r s h (changed-In ends_of q (r, s) (In-from (faces_of q) (r, s) k));
  others = λ p q r n. ⊎_elim (λ f. absurd (n f)) (λ e. e) (face_or_zero p q r);
  sum = sum_over_faces;
}

pub cofaces_are_all : CofacesAreAll
cofaces_are_all = record {
  cofacets = λ q r s h. facet_from q r s (flip_down r q s (changed-In intervals_at r (q, s) (In-from (cofaces_of r) (q, s) h)));
  all = λ q r h. let k = facet_sign q r h in (k.0, from-In (cofaces_of r) (q, k.0) (In-changed intervals_at r q k.0 (flip_up q r k.0 k.1)));
  once = λ r d i j. once_changed intervals_at differ_intervals r d i j;
  signs = λ p q r s h k. sign_from p q r s h (flip_down r q s (changed-In intervals_at r (q, s) (In-from (cofaces_of r) (q, s) k)));
}

-- ---- the closure

part_from : (f g : Factor) → In (parts_of f) g → IsPart f g
part_from (point l) g h = let P : Factor → Type 0 = λ v. IsPart (point l) v in ⊎_elim (λ e. subst P e refl) (λ z. absurd z) h
part_from (interval l) g h =
    let P : Factor → Type 0 = λ v. IsPart (interval l) v in
    ⊎_elim (λ e. subst P e (inl refl)) (λ k. ⊎_elim (λ e. subst P e refl) (λ j. ⊎_elim (λ e. subst P e (inr refl)) (λ z. absurd z) j) k) h

from_part : (f g : Factor) → IsPart f g → In (parts_of f) g
from_part (point l) (point m) h = inl (ap point (sym h))
from_part (point l) (interval m) h = absurd h
from_part (interval l) (point m) h = ⊎_elim (λ e. inl (ap point (sym e))) (λ e. inr (inr (inl (ap point (sym e))))) h
from_part (interval l) (interval m) h = inr (inl (ap interval (sym h)))

-- a factor in front of each part
abbrev pub fronts : List Factor → List Factor → List (List Factor)
fronts ps rs = map (λ r. r ∷ rs) ps

closure_from : (q r : List Factor) → In (closure_of q) r → IsFace q r
closure_from [] r h = let P : List Factor → Type 0 = λ v. IsFace [] v in ⊎_elim (λ e. subst P e tt) (λ z. absurd z) h
closure_from (f ∷ fs) r h =
    let P : List Factor → Type 0 = λ v. IsFace (f ∷ fs) v in
    let c = In-flat (fronts (parts_of f)) (closure_of fs) r h in
    let e = In-map (λ (g : Factor). g ∷ c.0) (parts_of f) r c.2 in
    subst P e.2 (part_from f e.0 e.1, closure_from fs c.0 c.1)

from_closure : (q r : List Factor) → IsFace q r → In (closure_of q) r
from_closure [] [] h = inl refl
from_closure [] (r ∷ rs) h = absurd h
from_closure (q ∷ qs) [] h = absurd h
from_closure (f ∷ fs) (g ∷ gs) h = flat-In (fronts (parts_of f)) (closure_of fs) gs (g ∷ gs) (from_closure fs gs h.1) (map-In (λ (r : Factor). r ∷ gs) (parts_of f) g (from_part f g h.0))

apart_parts : (f : Factor) → Apart (parts_of f)
apart_parts (point l) = ((λ z. z), tt)
apart_parts (interval l) = (
  λ h. ⊎_elim (λ e. cc) (λ k. ⊎_elim (λ e. let j : l +ℤ pos 1 ≡ l = cc in absurd (omega (arith, ints))) (λ z. z) k) h,
  ((λ h. ⊎_elim (λ e. cc) (λ z. z) h), ((λ z. z), tt)),
)

apart_flat : (ps : List Factor) → Apart ps → (xs : List (List Factor)) → Apart xs → Apart (flat_map (fronts ps) xs)
apart_flat ps a [] b = tt
apart_flat ps a (x ∷ xs) b = apart-append (fronts ps x) (flat_map (fronts ps) xs)
    (apart-map (λ (r : Factor). r ∷ x) ps (λ y z k. same_head y z x x k) a)
    (apart_flat ps a xs b.1)
    (λ y h k.
    let c = In-map (λ (r : Factor). r ∷ x) ps y h in
    let d = In-flat (fronts ps) xs y k in
    let e = In-map (λ (r : Factor). r ∷ d.0) ps y d.2 in
    let s : d.0 ≡ x = same_tail e.0 c.0 d.0 x (e.2 ∙ sym c.2) in
    let P : List Factor → Type 0 = λ v. In xs v in
    b.0 (subst P s d.1))

apart_closure : (q : List Factor) → Apart (closure_of q)
apart_closure [] = ((λ z. z), tt)
apart_closure (f ∷ fs) = apart_flat (parts_of f) (apart_parts f) (closure_of fs) (apart_closure fs)

pub closures_are_faces : ClosuresAreFaces
closures_are_faces = record {
  faces = λ q r. (λ h. closure_from q r (In-from (closure_of q) r h), λ f. from-In (closure_of q) r (from_closure q r f));
  once = λ q d i j h k e. apart_places (closure_of q) i j d (apart_closure q) h k e;
  closed = λ q r s h f. from-In (closure_of q) s (from_closure q s (face_trans q r s (closure_from q r (In-from (closure_of q) r h)) f));
}
