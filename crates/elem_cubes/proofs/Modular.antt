-- Equalities modulo p that the signs need.
use Rattle.std.proofs.Common.{◌≡◌, ℕ, zero, suc, ◌+◌, ◌-◌, ◌*◌, ◌≤◌, refl, sym, ap, arith, Bool, true, false, cond}
use Rattle.std.specs.Prelude.{ℤ, pos, negsuc, neg_ℤ}
use Rattle.field_mod.specs.Modular.{Same}
use Rattle.field_mod.proofs.Modular.{same_by, same_trans, neg_cancel}
use Rattle.elem_cubes.specs.Boundary.{residue}

pub exact : (p : ℕ) {a b : ℕ} → a ≡ b → Same p a b
exact p e = same_by p 0 0 _ _ (ap (λ v. v + p * 0) e)

-- minus twice is nothing
pub minus_minus : (p x : ℕ) → 1 ≤ p → Same p ((p - 1) * ((p - 1) * x)) x
minus_minus p x h =
    let a = neg_cancel p x h in
    let b = neg_cancel p ((p - 1) * x) h in
    same_by p x ((p - 1) * x) _ x (omega arith)

-- the residue of the opposite sign
pub residue_neg : (p : ℕ) (s : ℤ) → 1 ≤ p → Same p (residue p (neg_ℤ s)) ((p - 1) * residue p s)
residue_neg p (pos zero) h = exact p (omega arith)
residue_neg p (pos (suc n)) h = exact p (ap (λ m. (p - 1) * m) (let e : n + 1 ≡ suc n = omega arith in e))
residue_neg p (negsuc n) h = same_trans (exact p (let e : suc n ≡ n + 1 = omega arith in e)) (same_sym' (minus_minus p (n + 1) h))
  where
    same_sym' : {a b : ℕ} → Same p a b → Same p b a
    same_sym' k = record { same = sym k.same }

pub either-none : (v : Bool) → ◌≡◌ {A = ℕ} (cond v 0 0) 0
either-none true = refl
either-none false = refl
