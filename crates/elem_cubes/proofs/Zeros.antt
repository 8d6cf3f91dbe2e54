-- A coefficient that is not 0 is that of a facet.
use Rattle.std.proofs.Common.{◌≡◌, ℕ, ◌+◌, ◌-◌, ◌*◌, ◌⊎◌, inl, inr, refl, sym, ap, ◌∙◌, subst, arith, ⊎_elim, List, [], ◌∷◌, Bool, true, false, cond, true≢false}
use Rattle.std.specs.Prelude.{pos, ◌+ℤ◌}
use Rattle.std.specs.Ordering.{int_eq}
use Rattle.elem_cubes.specs.Cells.{Factor, point, interval, dimension_of, same_cell}
use Rattle.elem_cubes.specs.Faces.{IsFace}
use Rattle.elem_cubes.specs.Boundary.{boundary_coefficient}
use Rattle.elem_cubes.specs.OrderLemmas.{int_same, cell_cases}
use Rattle.elem_cubes.proofs.FaceLemmas.{face_refl}
use Rattle.elem_cubes.proofs.Modular.{either-none}

ends-none : (p : ℕ) (w a b : Bool) → a ≡ false → b ≡ false → cond w (cond a 1 0 + cond b (p - 1) 0) 0 + 0 ≡ 0
ends-none p true true b e f = absurd (true≢false e)
ends-none p true false true e f = absurd (true≢false f)
ends-none p true false false e f = refl
ends-none p false a b e f = refl

-- a cell in whose boundary another has a coefficient has it as a face of one dimension_of less
pub face_or_zero : (p : ℕ) (q r : List Factor) → (IsFace q r × (dimension_of r + 1 ≡ dimension_of q)) ⊎ (boundary_coefficient p q r ≡ 0)
face_or_zero p [] r = inr refl
face_or_zero p (q ∷ qs) [] = inr refl
face_or_zero p (point l ∷ qs) (interval m ∷ rs) = inr (ap (λ v. v + 0) (either-none (same_cell qs rs)))
face_or_zero p (point l ∷ qs) (point m ∷ rs) =
    let z = either-none (same_cell qs rs) in
    ⊎_elim
    (λ e. ⊎_elim (λ f. inl ((sym e, f.0), f.1)) (λ f. inr (z' z f (int_eq l m))) (face_or_zero p qs rs))
    (λ n. inr (rw n (ap (λ v. v + 0) z)))
    (int_same l m)
  where
    z' : {a b : ℕ} → a ≡ 0 → b ≡ 0 → (v : Bool) → a + cond v b 0 ≡ 0
    z' e f true = omega arith
    z' e f false = omega arith
face_or_zero p (interval l ∷ qs) (interval m ∷ rs) =
    let z = either-none (same_cell qs rs) in
    ⊎_elim
    (λ e. ⊎_elim (λ f. inl ((sym e, f.0), ap (λ n. n + 1) f.1)) (λ f. inr (z' z (ap (λ v. (p - 1) * v) f ∙ omega arith) (int_eq l m))) (face_or_zero p qs rs))
    (λ n. inr (rw n (ap (λ v. v + 0) z)))
    (int_same l m)
  where
    z' : {a b : ℕ} → a ≡ 0 → b ≡ 0 → (v : Bool) → a + cond v b 0 ≡ 0
    z' e f true = omega arith
    z' e f false = omega arith
face_or_zero p (interval l ∷ qs) (point m ∷ rs) =
    ⊎_elim
    (λ e. let k : IsFace qs rs = subst (λ (t : List Factor). IsFace qs t) e (face_refl qs) in let d = ap (λ t. dimension_of t + 1) (sym e) in
    ⊎_elim (λ u. inl ((inr (sym u), k), d)) (λ u. ⊎_elim (λ v. inl ((inl (sym v), k), d)) (λ v. inr (ends-none p (same_cell qs rs) (int_eq (l +ℤ pos 1) m) (int_eq l m) u v)) (int_same l m)) (int_same (l +ℤ pos 1) m))
    (λ n. inr (rw n refl))
    (cell_cases qs rs)
