-- The boundary at a cell: linear, by cofaces alone, twice 0; the coefficients are its values at single cells.
use Rattle.std.proofs.Common.{◌≡◌, ℕ, zero, suc, ◌+◌, ◌-◌, ◌*◌, ◌<◌, ◌⊎◌, inl, inr, refl, sym, ap, ◌∙◌, arith, ⊎_elim, List, [], ◌∷◌, length, Bool, true, false, cond, ◌&&◌, true≢false, eqb, eq-eqb, ne_eqb}
use Rattle.std.specs.Prelude.{ℤ, pos, negsuc, ◌+ℤ◌}
use Rattle.std.specs.Ordering.{int_eq}
use Rattle.std.proofs.lemmas.Bool.{cases_eq}
use Rattle.std.proofs.lemmas.Int.{ints}
use Rattle.field_mod.specs.Sums.{total}
use Rattle.field_mod.specs.Modular.{Same}
use Rattle.field_mod.proofs.Sums.{total-same, total-zero, total-single}
use Rattle.field_mod.proofs.Modular.{same_by, same_refl, same_trans, same-add, same-scale, neg_cancel}
use Rattle.elem_cubes.specs.Cells.{Factor, point, interval, same_cell}
use Rattle.elem_cubes.specs.Faces.{IsFace}
use Rattle.elem_cubes.specs.Boundary.{boundary_coefficient, boundary_at}
use Rattle.elem_cubes.specs.Laws.{cell_at, BoundaryOfBoundaryIsZero, BoundaryAtIsBoundary}
use Rattle.elem_cubes.specs.OrderLemmas.{int_same, int_refl, cell_refl, cell_cases}
use Rattle.elem_cubes.proofs.FaceLemmas.{face_refl}
use Rattle.elem_cubes.proofs.Modular.{exact, either-none}

-- 1 at the cell r
abbrev pub at_cell : List Factor → List Factor → ℕ
at_cell r s = cond (same_cell s r) 1 0

pub boundary_same : (p : ℕ) (r : List Factor) (c d : List Factor → ℕ) → ((s : List Factor) → IsFace s r → Same p (c s) (d s)) → Same p (boundary_at p r c) (boundary_at p r d)
boundary_same p [] c d h = same_refl p 0
boundary_same p (point m ∷ rs) c d h =
    same-add (same-add (h (interval (m +ℤ negsuc 0) ∷ rs) (inr up, face_refl rs)) (same-scale (p - 1) (h (interval m ∷ rs) (inl refl, face_refl rs)))) (boundary_same p rs (λ ts. c (point m ∷ ts)) (λ ts. d (point m ∷ ts)) (λ s k. h (point m ∷ s) (refl, k)))
  where
    up : m ≡ m +ℤ negsuc 0 +ℤ pos 1
    up = omega (arith, ints)
boundary_same p (interval m ∷ rs) c d h = same-scale (p - 1) (boundary_same p rs (λ ts. c (interval m ∷ ts)) (λ ts. d (interval m ∷ ts)) (λ s k. h (interval m ∷ s) (refl, k)))

pub boundary-add : (p : ℕ) (r : List Factor) (c d : List Factor → ℕ) → boundary_at p r (λ s. c s + d s) ≡ boundary_at p r c + boundary_at p r d
boundary-add p [] c d = refl
boundary-add p (point m ∷ rs) c d = omega (arith, boundary-add p rs (λ ts. c (point m ∷ ts)) (λ ts. d (point m ∷ ts)))
boundary-add p (interval m ∷ rs) c d = omega (arith, ap (λ v. (p - 1) * v) (boundary-add p rs (λ ts. c (interval m ∷ ts)) (λ ts. d (interval m ∷ ts))))

pub boundary-scale : (p : ℕ) (r : List Factor) (a : ℕ) (f : List Factor → ℕ) → boundary_at p r (λ s. a * f s) ≡ a * boundary_at p r f
boundary-scale p [] a f = omega arith
boundary-scale p (point m ∷ rs) a f = omega (arith, boundary-scale p rs a (λ ts. f (point m ∷ ts)))
boundary-scale p (interval m ∷ rs) a f = omega (arith, ap (λ v. (p - 1) * v) (boundary-scale p rs a (λ ts. f (interval m ∷ ts))))

pub boundary-none : (p : ℕ) (r : List Factor) → boundary_at p r (λ s. 0) ≡ 0
boundary-none p [] = refl
boundary-none p (point m ∷ rs) = omega (arith, boundary-none p rs)
boundary-none p (interval m ∷ rs) = omega (arith, ap (λ v. (p - 1) * v) (boundary-none p rs))

pub boundary-total : (p : ℕ) (r : List Factor) (n : ℕ) (x : ℕ → ℕ) (f : ℕ → List Factor → ℕ) → boundary_at p r (λ s. total n (λ i. x i * f i s)) ≡ total n (λ i. x i * boundary_at p r (f i))
boundary-total p r zero x f = boundary-none p r
boundary-total p r (suc n) x f =
    boundary-add p r (λ s. x 0 * f 0 s) (λ s. total n (λ i. x (suc i) * f (suc i) s))
    ∙ (let a = boundary-scale p r (x 0) (f 0) in let k = boundary-total p r n (λ i. x (suc i)) (λ i. f (suc i)) in omega arith)

pub boundary_twice : BoundaryOfBoundaryIsZero
boundary_twice p [] c h = same_refl p 0
boundary_twice p (interval m ∷ rs) c h =
    let wide : List Factor → ℕ = λ ts. c (interval m ∷ ts) in
    let z = boundary_twice p rs wide h in
    let e = boundary-scale p rs (p - 1) (λ ts. boundary_at p ts wide) in
    same_trans (exact p (ap (λ v. (p - 1) * v) e)) (same_trans (same-scale (p - 1) (same-scale (p - 1) z)) (same_by p 0 0 _ _ (omega arith)))
boundary_twice p (point m ∷ rs) c h =
    let down : List Factor → ℕ = λ ts. c (interval (m +ℤ negsuc 0) ∷ ts) in
    let wide : List Factor → ℕ = λ ts. c (interval m ∷ ts) in
    let flat : List Factor → ℕ = λ ts. c (point m ∷ ts) in
    let a = boundary_at p rs down in
    let b = boundary_at p rs wide in
    let q = boundary_at p rs (λ ts. boundary_at p ts flat) in
    let z : Same p q 0 = boundary_twice p rs flat h in
    let e1 = boundary-add p rs (λ ts. down ts + (p - 1) * wide ts) (λ ts. boundary_at p ts flat) in
    let e2 = boundary-add p rs down (λ ts. (p - 1) * wide ts) in
    let e3 = boundary-scale p rs (p - 1) wide in
    same_trans (same_by p 0 (a + (p - 1) * b) _ q (omega (arith, neg_cancel p a h, neg_cancel p ((p - 1) * b) h))) z

-- ---- the coefficient

int_eq_sym : (l m : ℤ) → int_eq l m ≡ int_eq m l
int_eq_sym l m = ⊎_elim (λ e. ap (λ x. int_eq x m) e ∙ ap (λ x. int_eq m x) (sym e)) (λ f. f ∙ sym (⊎_elim (λ e. absurd (true≢false (sym (ap (λ x. int_eq x m) (sym e) ∙ int_refl m) ∙ f))) (λ g. g) (int_same m l))) (int_same l m)

int_down : (l m : ℤ) → int_eq (m +ℤ negsuc 0) l ≡ int_eq (l +ℤ pos 1) m
int_down l m = ⊎_elim
    (λ e. let k : l +ℤ pos 1 ≡ m = omega (arith, ints, e) in ap (λ x. int_eq x l) e ∙ int_refl l ∙ sym (ap (λ x. int_eq x m) k ∙ int_refl m))
    (λ f. f ∙ sym (⊎_elim (λ e. let k : m +ℤ negsuc 0 ≡ l = omega (arith, ints, e) in absurd (true≢false (sym (ap (λ x. int_eq x l) k ∙ int_refl l) ∙ f))) (λ g. g) (int_same (l +ℤ pos 1) m)))
    (int_same (m +ℤ negsuc 0) l)

same_cell_sym : (a b : List Factor) → same_cell a b ≡ same_cell b a
same_cell_sym a b = ⊎_elim (λ e. ap (λ x. same_cell x b) e ∙ ap (λ x. same_cell b x) (sym e)) (λ f. f ∙ sym (⊎_elim (λ e. absurd (true≢false (sym (ap (λ x. same_cell x b) (sym e) ∙ cell_refl b) ∙ f))) (λ g. g) (cell_cases b a))) (cell_cases a b)

pick : (p : ℕ) (u v w : Bool) (x : ℕ) → x ≡ 0 → cond w (cond u 1 0 + cond v (p - 1) 0) 0 + 0 ≡ cond (u && w) 1 0 + (p - 1) * cond (v && w) 1 0 + x
pick p true true true x e = omega arith
pick p true true false x e = omega arith
pick p true false true x e = omega arith
pick p true false false x e = omega arith
pick p false true true x e = omega arith
pick p false true false x e = omega arith
pick p false false true x e = omega arith
pick p false false false x e = omega arith

-- the coefficient of r in the boundary of q is the boundary, at r, of the chain that is 1 at q
pub coefficient-boundary : (p : ℕ) (q r : List Factor) → boundary_coefficient p q r ≡ boundary_at p r (at_cell q)
coefficient-boundary p [] [] = refl
coefficient-boundary p [] (point m ∷ rs) = sym (ap (λ v. 0 + (p - 1) * 0 + v) (boundary-none p rs) ∙ omega arith)
coefficient-boundary p [] (interval m ∷ rs) = sym (ap (λ v. (p - 1) * v) (boundary-none p rs) ∙ omega arith)
coefficient-boundary p (q ∷ qs) [] = refl
coefficient-boundary p (point l ∷ qs) (interval m ∷ rs) = ap (λ v. v + 0) (either-none (same_cell qs rs)) ∙ sym (ap (λ v. (p - 1) * v) (boundary-none p rs) ∙ omega arith)
coefficient-boundary p (point l ∷ qs) (point m ∷ rs) =
    let e = coefficient-boundary p qs rs in
    let z = either-none (same_cell qs rs) in
    rw (int_eq_sym m l) (elim (int_eq l m) as (λ v. cond (same_cell qs rs) 0 0 + cond v (boundary_coefficient p qs rs) 0 ≡ 0 + (p - 1) * 0 + boundary_at p rs (λ ts. cond (v && same_cell ts qs) 1 0)) [
      | true ↦ omega arith
      | false ↦ let y = boundary-none p rs in omega arith
    ])
coefficient-boundary p (interval l ∷ qs) (interval m ∷ rs) =
    let e = ap (λ v. (p - 1) * v) (coefficient-boundary p qs rs) in
    let z = either-none (same_cell qs rs) in
    rw (int_eq_sym m l) (elim (int_eq l m) as (λ v. cond (same_cell qs rs) 0 0 + cond v ((p - 1) * boundary_coefficient p qs rs) 0 ≡ (p - 1) * boundary_at p rs (λ ts. cond (v && same_cell ts qs) 1 0)) [
      | true ↦ omega arith
      | false ↦ let y = ap (λ v. (p - 1) * v) (boundary-none p rs) in omega arith
    ])
coefficient-boundary p (interval l ∷ qs) (point m ∷ rs) =
    pick p (int_eq (l +ℤ pos 1) m) (int_eq l m) (same_cell qs rs) (boundary_at p rs (λ ts. 0)) (boundary-none p rs)
    ∙ ap (λ v. cond v 1 0 + (p - 1) * cond (int_eq l m && same_cell qs rs) 1 0 + boundary_at p rs (λ ts. 0)) (ap (λ v. v && same_cell qs rs) (sym (int_down l m)) ∙ ap (λ v. int_eq (m +ℤ negsuc 0) l && v) (same_cell_sym qs rs))
    ∙ ap (λ v. cond (int_eq (m +ℤ negsuc 0) l && same_cell rs qs) 1 0 + (p - 1) * cond v 1 0 + boundary_at p rs (λ ts. 0)) (ap (λ v. v && same_cell qs rs) (int_eq_sym l m) ∙ ap (λ v. int_eq m l && v) (same_cell_sym qs rs))

-- what n cells, each once, carry to one of them
pub spread : (n : ℕ) (at : ℕ → List Factor) (f : List Factor → ℕ) (s : List Factor)
    → ((i j : ℕ) → i < n → j < n → at i ≡ at j → i ≡ j)
    → (((i : ℕ) × (i < n) × (at i ≡ s)) ⊎ (f s ≡ 0)) → total n (λ i. f (at i) * at_cell (at i) s) ≡ f s
spread n at f s distinct (inl w) =
    total-same n (λ i. f (at i) * at_cell (at i) s) (λ i. cond (eqb w.0 i) 1 0 * f (at i)) (λ i l. each i l)
    ∙ total-single n w.0 1 (λ i. f (at i)) w.1 ∙ (let e = ap f w.2 in omega arith)
  where
    each : (i : ℕ) → i < n → f (at i) * at_cell (at i) s ≡ cond (eqb w.0 i) 1 0 * f (at i)
    each i l = ⊎_elim
        (λ e. let a : at_cell (at i) s ≡ 1 = ap (λ v. cond v 1 0) (ap (λ t. same_cell t (at i)) (sym w.2) ∙ ap (λ k. same_cell (at k) (at i)) e ∙ cell_refl (at i)) in let b : cond (eqb w.0 i) 1 0 ≡ 1 = ap (λ v. cond v 1 0) (eq-eqb w.0 i e) in let a2 = ap (λ v. f (at i) * v) a in let b2 = ap (λ v. v * f (at i)) b in omega arith)
        (λ d. let b : cond (eqb w.0 i) 1 0 ≡ 0 = ap (λ v. cond v 1 0) (ne_eqb w.0 i d) in ⊎_elim (λ e. absurd (d (distinct w.0 i w.1 l (w.2 ∙ e)))) (λ k. let a : at_cell (at i) s ≡ 0 = ap (λ v. cond v 1 0) k in let a2 = ap (λ v. f (at i) * v) a in let b2 = ap (λ v. v * f (at i)) b in omega arith) (cell_cases s (at i)))
        (cases_eq w.0 i)
spread n at f s distinct (inr z) =
    total-same n (λ i. f (at i) * at_cell (at i) s) (λ i. 0) (λ i l. ⊎_elim (λ e. let a = ap f (sym e) ∙ z in ap (λ v. v * at_cell (at i) s) a ∙ omega arith) (λ k. ap (λ v. f (at i) * v) (ap (λ v. cond v 1 0) k) ∙ omega arith) (cell_cases s (at i)))
    ∙ total-zero n ∙ sym z

pub boundary_at_is_boundary : BoundaryAtIsBoundary
boundary_at_is_boundary p cells c r distinct listed =
    let n = length cells in
    let at = cell_at cells in
    let a = total-same n (λ i. c (at i) * boundary_coefficient p (at i) r) (λ i. c (at i) * boundary_at p r (at_cell (at i))) (λ i l. ap (λ v. c (at i) * v) (coefficient-boundary p (at i) r)) in
    let b = boundary-total p r n (λ i. c (at i)) (λ i. at_cell (at i)) in
    same_trans (exact p (a ∙ sym b)) (boundary_same p r (λ s. total n (λ i. c (at i) * at_cell (at i) s)) c (λ s k. exact p (spread n at c s distinct (⊎_elim (λ e. inr e) (λ d. inl (listed s k d)) (cases_eq (c s) 0)))))
