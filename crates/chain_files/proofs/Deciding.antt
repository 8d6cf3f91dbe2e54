-- Tests on numbers, and what they tell.
use Rattle.std.proofs.Common.{◌≡◌, ◌≤◌, ◌&&◌, ℕ, ◌%◌, ⊎_elim, true, false, refl, arith}
use Rattle.std.specs.Prelude.{nat_le, Bool}
use Rattle.std.proofs.lemmas.Bool.Decides.{leb_tells}

pub le_told : (a b : ℕ) → nat_le a b ≡ true → a ≤ b
le_told a b e = ⊎_elim (λ t. t.1) (λ f. cc) (leb_tells a b)

pub le_tested : (a b : ℕ) → a ≤ b → nat_le a b ≡ true
le_tested a b le = ⊎_elim (λ t. t.0) (λ f. absurd (omega (arith, f.1))) (leb_tells a b)

pub zero_mod : (p : ℕ) → 0 % p ≡ 0
zero_mod p = omega arith

pub on_test : {R : Type 0} (b : Bool) → (b ≡ true → R) → (b ≡ false → R) → R
on_test true f g = f refl
on_test false f g = g refl

pub and_both : (a b : Bool) → (a && b) ≡ true → (a ≡ true) × (b ≡ true)
and_both true b h = (refl, h)
and_both false b h = cc
