-- The coefficient of a facet, and the signed sums over faces and cofaces.
use Rattle.std.proofs.Common.{◌≡◌, ◌≢◌, ℕ, ◌+◌, ◌-◌, ◌*◌, ◌≤◌, refl, sym, ap, ◌∙◌, arith, ⊎_elim, List, [], ◌∷◌, map, Bool, true, false, cond, true≢false}
use Rattle.std.specs.Prelude.{ℤ, pos, negsuc, ◌+ℤ◌}
use Rattle.std.specs.Ordering.{int_eq}
use Rattle.std.proofs.lemmas.Int.{ints}
use Rattle.field_mod.specs.Modular.{Same}
use Rattle.field_mod.proofs.Modular.{same_by, same_refl, same_trans, same-add, same-scale, same-mul}
use Rattle.elem_cubes.specs.Cells.{Factor, point, interval, dimension_of, same_cell}
use Rattle.elem_cubes.specs.Faces.{IsFace, behind, faces_of, cofaces_of}
use Rattle.elem_cubes.specs.Boundary.{residue, boundary_coefficient, boundary_pairing, signed_sum}
use Rattle.elem_cubes.specs.Laws.{BoundaryIsOverCofaces, FacetsAreUnits}
use Rattle.elem_cubes.specs.OrderLemmas.{int_same, int_refl, cell_refl}
use Rattle.elem_cubes.proofs.Modular.{exact, minus_minus, residue_neg, either-none}

-- ---- signed sums

sum_plain : (p : ℕ) (l : ℤ) (c : List Factor → ℕ) (gs : List (List Factor × ℤ)) → signed_sum p c (map (behind (point l)) gs) ≡ signed_sum p (λ ts. c (point l ∷ ts)) gs
sum_plain p l c [] = refl
sum_plain p l c (g ∷ gs) = ap (λ v. residue p g.1 * c (point l ∷ g.0) + v) (sum_plain p l c gs)

sum_turned : (p : ℕ) (l : ℤ) (c : List Factor → ℕ) (gs : List (List Factor × ℤ)) → 1 ≤ p → Same p (signed_sum p c (map (behind (interval l)) gs)) ((p - 1) * signed_sum p (λ ts. c (interval l ∷ ts)) gs)
sum_turned p l c [] h = exact p (omega arith)
sum_turned p l c (g ∷ gs) h =
    let x = c (interval l ∷ g.0) in
    let s = signed_sum p (λ ts. c (interval l ∷ ts)) gs in
    same_trans (same-add (same-mul (residue_neg p g.1 h) (same_refl p x)) (sum_turned p l c gs h)) (exact p (let e : (p - 1) * residue p g.1 * x + (p - 1) * s ≡ (p - 1) * (residue p g.1 * x + s) = omega arith in e))

pub sum_over_cofaces : BoundaryIsOverCofaces
sum_over_cofaces p [] c h = same_refl p 0
sum_over_cofaces p (point m ∷ rs) c h =
    let s = sum_plain p m c (cofaces_of rs) in
    let k = sum_over_cofaces p rs (λ ts. c (point m ∷ ts)) h in
    let a = c (interval (m +ℤ negsuc 0) ∷ rs) in
    let b = (p - 1) * c (interval m ∷ rs) in
    same_trans (exact p (let e : (p - 1) * (0 + 1) * c (interval m ∷ rs) + (1 * a + signed_sum p c (map (behind (point m)) (cofaces_of rs))) ≡ a + b + signed_sum p (λ ts. c (point m ∷ ts)) (cofaces_of rs) = omega arith in e)) (same-add (same_refl p (a + b)) k)
sum_over_cofaces p (interval m ∷ rs) c h =
    same_trans (sum_turned p m c (cofaces_of rs) h) (same-scale (p - 1) (sum_over_cofaces p rs (λ ts. c (interval m ∷ ts)) h))

pub sum_over_faces : (p : ℕ) (q : List Factor) (f : List Factor → ℕ) → 1 ≤ p → Same p (signed_sum p f (faces_of q)) (boundary_pairing p q f)
sum_over_faces p [] f h = same_refl p 0
sum_over_faces p (point l ∷ qs) f h = same_trans (exact p (sum_plain p l f (faces_of qs))) (sum_over_faces p qs (λ rs. f (point l ∷ rs)) h)
sum_over_faces p (interval l ∷ qs) f h =
    let a = f (point (l +ℤ pos 1) ∷ qs) in
    let b = (p - 1) * f (point l ∷ qs) in
    let s = signed_sum p f (map (behind (interval l)) (faces_of qs)) in
    let k = same_trans (sum_turned p l f (faces_of qs) h) (same-scale (p - 1) (sum_over_faces p qs (λ rs. f (interval l ∷ rs)) h)) in
    same_trans (exact p (let e : 1 * a + ((p - 1) * (0 + 1) * f (point l ∷ qs) + s) ≡ a + b + s = omega arith in e)) (same-add (same_refl p (a + b)) k)

-- ---- facets have the coefficients 1 and -1

along : {y x p : ℕ} → y ≡ x → Same p (x * x) 1 → Same p (y * y) 1
along {y} {x} {p} e h = rw e h

pick : (a x : ℕ) (v : Bool) → a ≡ 0 → v ≡ true → a + cond v x 0 ≡ x
pick a x true e f = omega arith
pick a x false e f = absurd (true≢false (sym f))

upper : (p : ℕ) (w a b : Bool) → w ≡ true → a ≡ true → b ≡ false → cond w (cond a 1 0 + cond b (p - 1) 0) 0 + 0 ≡ 1
upper p w a b e f g = rw (e, f, g) refl

lower : (p : ℕ) (w a b : Bool) → w ≡ true → a ≡ false → b ≡ true → cond w (cond a 1 0 + cond b (p - 1) 0) 0 + 0 ≡ p - 1
lower p w a b e f g = rw (e, f, g) (omega arith)

next_apart : (l : ℤ) → l +ℤ pos 1 ≢ l
next_apart l e = absurd (omega (arith, ints))

int_apart : (l m : ℤ) → l ≢ m → int_eq l m ≡ false
int_apart l m d = ⊎_elim (λ e. absurd (d e)) (λ f. f) (int_same l m)

pub face_dimension : (q r : List Factor) → IsFace q r → dimension_of r ≤ dimension_of q
face_dimension [] [] f = omega arith
face_dimension [] (r ∷ rs) f = absurd f
face_dimension (q ∷ qs) [] f = absurd f
face_dimension (point l ∷ qs) (point m ∷ rs) f = face_dimension qs rs f.1
face_dimension (point l ∷ qs) (interval m ∷ rs) f = absurd f.0
face_dimension (interval l ∷ qs) (point m ∷ rs) f = omega (arith, face_dimension qs rs f.1)
face_dimension (interval l ∷ qs) (interval m ∷ rs) f = omega (arith, face_dimension qs rs f.1)

-- a face of the same dimension is the cell
pub face_equal : (q r : List Factor) → IsFace q r → dimension_of r ≡ dimension_of q → q ≡ r
face_equal [] [] f d = refl
face_equal [] (r ∷ rs) f d = absurd f
face_equal (q ∷ qs) [] f d = absurd f
face_equal (point l ∷ qs) (point m ∷ rs) f d = λ i. point (sym f.0 i) ∷ face_equal qs rs f.1 d i
face_equal (point l ∷ qs) (interval m ∷ rs) f d = absurd f.0
face_equal (interval l ∷ qs) (point m ∷ rs) f d = absurd (omega (arith, face_dimension qs rs f.1))
face_equal (interval l ∷ qs) (interval m ∷ rs) f d = λ i. interval (sym f.0 i) ∷ face_equal qs rs f.1 (omega (arith, d)) i

pub upper_coefficient : (p : ℕ) (l m : ℤ) (qs rs : List Factor) → qs ≡ rs → m ≡ l +ℤ pos 1 → boundary_coefficient p (interval l ∷ qs) (point m ∷ rs) ≡ 1
upper_coefficient p l m qs rs e k =
    upper p (same_cell qs rs) (int_eq (l +ℤ pos 1) m) (int_eq l m) (ap (λ t. same_cell t rs) e ∙ cell_refl rs) (ap (λ t. int_eq (l +ℤ pos 1) t) k ∙ int_refl (l +ℤ pos 1)) (int_apart l m (λ u. next_apart l (sym k ∙ sym u)))

pub lower_coefficient : (p : ℕ) (l m : ℤ) (qs rs : List Factor) → qs ≡ rs → m ≡ l → boundary_coefficient p (interval l ∷ qs) (point m ∷ rs) ≡ p - 1
lower_coefficient p l m qs rs e k =
    lower p (same_cell qs rs) (int_eq (l +ℤ pos 1) m) (int_eq l m) (ap (λ t. same_cell t rs) e ∙ cell_refl rs) (int_apart (l +ℤ pos 1) m (λ u. next_apart l (u ∙ k))) (ap (λ t. int_eq l t) k ∙ int_refl l)

pub point_coefficient : (p : ℕ) (l m : ℤ) (qs rs : List Factor) → m ≡ l → boundary_coefficient p (point l ∷ qs) (point m ∷ rs) ≡ boundary_coefficient p qs rs
point_coefficient p l m qs rs k = pick (cond (same_cell qs rs) 0 0) (boundary_coefficient p qs rs) (int_eq l m) (either-none (same_cell qs rs)) (ap (λ t. int_eq l t) k ∙ int_refl l)

pub interval_coefficient : (p : ℕ) (l m : ℤ) (qs rs : List Factor) → m ≡ l → boundary_coefficient p (interval l ∷ qs) (interval m ∷ rs) ≡ (p - 1) * boundary_coefficient p qs rs
interval_coefficient p l m qs rs k = pick (cond (same_cell qs rs) 0 0) ((p - 1) * boundary_coefficient p qs rs) (int_eq l m) (either-none (same_cell qs rs)) (ap (λ t. int_eq l t) k ∙ int_refl l)

pub facet_unit : FacetsAreUnits
facet_unit p [] a h f = absurd (omega (arith, f.1))
facet_unit p (q ∷ qs) [] h f = absurd f.0
facet_unit p (point l ∷ qs) (interval m ∷ rs) h f = absurd f.0.0
facet_unit p (point l ∷ qs) (point m ∷ rs) h f = along (point_coefficient p l m qs rs f.0.0) (facet_unit p qs rs h (f.0.1, f.1))
facet_unit p (interval l ∷ qs) (interval m ∷ rs) h f =
    let x = boundary_coefficient p qs rs in
    along (interval_coefficient p l m qs rs f.0.0)
    (same_trans (same_by p 0 0 _ ((p - 1) * ((p - 1) * (x * x))) (omega arith)) (same_trans (minus_minus p (x * x) h) (facet_unit p qs rs h (f.0.1, omega (arith, f.1)))))
facet_unit p (interval l ∷ qs) (point m ∷ rs) h f =
    let e : qs ≡ rs = face_equal qs rs f.0.1 (omega (arith, f.1)) in
    ⊎_elim
    (λ k. along (lower_coefficient p l m qs rs e k) (same_trans (same_by p 0 0 _ ((p - 1) * ((p - 1) * 1)) (omega arith)) (minus_minus p 1 h)))
    (λ k. along (upper_coefficient p l m qs rs e k) (same_refl p 1))
    f.0.0
