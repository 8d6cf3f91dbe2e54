-- Sums that are 0, or one generator.
use Rattle.std.proofs.Common.{◌≡◌, ◌↔◌, ℕ, ◌+◌, ◌*◌, ◌%◌, ◌^◌, ◌<◌, ◌≤◌, sym, ap, ◌∙◌, arith, ⊎_elim, List, [], ◌∷◌, length, get_or, Bool, true, false, cond, eqb, eq-eqb, ne_eqb}
use Rattle.std.proofs.lemmas.Bool.{cases_eq}
use native.Mathlib.Nat.{mod-mod, zero-mod}
use Rattle.std.proofs.Math.Nat.{mod-eq_of_lt}
use Rattle.field_mod.specs.Modular.{Same}
use Rattle.field_mod.proofs.Modular.{same_refl, same_trans, same-add}
use Rattle.elem_cubes.proofs.Modular.{exact}
use Rattle.chains.specs.Terms.{coefficient, IsNormal}
use Rattle.chains.proofs.TermLists.{one_list}
use Rattle.algebraic_reduction.specs.Reduction.{single}

pub through : {A B C : Type 0} → A ↔ B → B ↔ C → A ↔ C
through f g = ((λ a. g.0 (f.0 a)), (λ c. f.1 (g.1 c)))

pub none_iff : (p : ℕ) (b : List (ℕ × ℕ)) (f : ℕ → ℕ) → IsNormal p b → ((g : ℕ) → coefficient b g ≡ f g % p) → (b ≡ []) ↔ ((g : ℕ) → Same p (f g) 0)
none_iff p b f normal sum = (
  (λ e g. record { same = sym (sum g) ∙ ap (λ c. coefficient c g) e ∙ sym (zero-mod p) }),
  (λ h. one_list p 0 (2 ^ 32) b [] normal (omega arith) (λ g. sum g ∙ (h g).same ∙ zero-mod p)),
)

pub single-flip : (i g : ℕ) → cond (eqb i g) 1 0 ≡ single i g
single-flip i g = ⊎_elim
    (λ e. ap (λ b. cond b 1 0) (eq-eqb i g e) ∙ sym (ap (λ b. cond b 1 0) (eq-eqb g i (sym e))))
    (λ f. ap (λ b. cond b 1 0) (ne_eqb i g f) ∙ sym (ap (λ b. cond b 1 0) (ne_eqb g i (λ e. f (sym e)))))
    (cases_eq i g)

single_small : (i g : ℕ) → single i g ≤ 1
single_small i g = at (eqb g i)
  where
    at : (b : Bool) → cond b 1 0 ≤ 1
    at true = omega arith
    at false = omega arith

pub one_iff : (p i : ℕ) (b : List (ℕ × ℕ)) (f : ℕ → ℕ) → 2 ≤ p → i < 2 ^ 32 → IsNormal p b → ((g : ℕ) → coefficient b g ≡ f g % p) → (b ≡ (i, 1) ∷ []) ↔ ((g : ℕ) → Same p (f g) (single i g))
one_iff p i b f two small normal sum = (
  (λ e g. record { same = sym (sum g) ∙ ap (λ c. coefficient c g) e ∙ alone g ∙ sym (below g) }),
  (λ h. one_list p 0 (2 ^ 32) b ((i, 1) ∷ []) normal ((omega arith), (omega arith), (omega (arith, two)), (omega (arith, small))) (λ g. sum g ∙ (h g).same ∙ below g ∙ sym (alone g))),
)
  where
    alone : (g : ℕ) → coefficient ((i, 1) ∷ []) g ≡ single i g
    alone g = let e = single-flip i g in omega (arith, e)

    below : (g : ℕ) → single i g % p ≡ single i g
    below g = mod-eq_of_lt (let s = single_small i g in omega (arith, s, two))

pub three : (p s a b c d : ℕ) → c ≡ (s + 1 * a) % p → d ≡ (c + 1 * b) % p → d ≡ (s + (a + b)) % p
three p s a b c d e f =
    let one : Same p c (s + 1 * a) = record { same = ap (λ v. v % p) e ∙ mod-mod (s + 1 * a) p } in
    f ∙ (same_trans (same-add one (same_refl p (1 * b))) (exact p (omega arith))).same

-- one term
pub is_one : (ts : List (ℕ × ℕ)) (t : ℕ × ℕ) (i : ℕ) → length ts ≡ 1 → t ≡ get_or ts 0 (0, 0) → t.0 ≡ i → t.1 ≡ 1 → ts ≡ (i, 1) ∷ []
is_one [] t i l e a b = absurd (omega (arith, l))
is_one (u ∷ []) t i l e a b = let w : u ≡ (i, 1) = λ j. ((sym (ap (λ (v : ℕ × ℕ). v.0) e) ∙ a) j, (sym (ap (λ (v : ℕ × ℕ). v.1) e) ∙ b) j) in ap (λ (v : ℕ × ℕ). v ∷ []) w
is_one (u ∷ v ∷ ts) t i l e a b = absurd (omega (arith, l))

pub from_one : (ts : List (ℕ × ℕ)) (t : ℕ × ℕ) (i : ℕ) → t ≡ get_or ts 0 (0, 0) → ts ≡ (i, 1) ∷ [] → (t.0 ≡ i) × (t.1 ≡ 1)
from_one ts t i e w = let f : t ≡ (i, 1) = e ∙ ap (λ (us : List (ℕ × ℕ)). get_or us 0 (0, 0)) w in (ap (λ (v : ℕ × ℕ). v.0) f, ap (λ (v : ℕ × ℕ). v.1) f)

pub length_one : (ts : List (ℕ × ℕ)) (i : ℕ) → ts ≡ (i, 1) ∷ [] → length ts ≡ 1
length_one ts i w = ap length w
