-- Maps of chains that are linear modulo p and tell only numbers modulo p apart: they go through finite sums, and so are
-- given by what they give the generators.
use Rattle.std.proofs.Common.{◌≡◌, ◌≢◌, ℕ, zero, suc, ◌+◌, ◌*◌, ◌<◌, ◌≤◌, refl, sym, ap, ◌∙◌, arith, ⊎_elim, cond, eqb, eq-eqb, ne_eqb}
use Rattle.std.proofs.lemmas.Bool.{cases_eq, cases_lt}
use Rattle.field_mod.specs.Sums.{total}
use Rattle.field_mod.specs.Modular.{Same}
use Rattle.field_mod.proofs.Sums.{total-same, total-zero, total-single}
use Rattle.field_mod.proofs.Modular.{same_by, same_refl, same_trans, same-add}
use Rattle.algebraic_reduction.specs.Reduction.{single}
use Rattle.algebraic_reduction.specs.Laws.{IsLinear}

pub exact : (p a b : ℕ) → a ≡ b → Same p a b
exact p a b e = same_by p 0 0 _ _ (ap (λ v. v + p * 0) e)

-- f tells only numbers modulo p apart
abbrev pub TellsSame : ℕ → ((ℕ → ℕ) → ℕ → ℕ) → Type 0
TellsSame p f = (x y : ℕ → ℕ) → ((g : ℕ) → Same p (x g) (y g)) → (g : ℕ) → Same p (f x g) (f y g)

pub through : (p : ℕ) (f : (ℕ → ℕ) → ℕ → ℕ) → IsLinear p f → TellsSame p f
    → (n : ℕ) (x : ℕ → ℕ) (cs : ℕ → ℕ → ℕ) (g : ℕ) → Same p (f (λ h. total n (λ i. x i * cs i h)) g) (total n (λ i. x i * f (cs i) g))
through p f lin same zero x cs g =
    same_trans (same (λ h. 0) (λ h. 0 * 0 + 0 * 0) (λ h. exact p 0 (0 * 0 + 0 * 0) (omega arith)) g)
    (same_trans (lin 0 0 (λ h. 0) (λ h. 0) g) (exact p _ 0 (omega arith)))
through p f lin same (suc n) x cs g =
    let rest : ℕ → ℕ = λ h. total n (λ i. x (suc i) * cs (suc i) h) in
    same_trans (same (λ h. x 0 * cs 0 h + rest h) (λ h. x 0 * cs 0 h + 1 * rest h) (λ h. exact p _ _ (omega arith)) g)
    (same_trans (lin (x 0) 1 (cs 0) rest g)
    (same-add (same_refl p (x 0 * f (cs 0) g))
    (same_trans (exact p (1 * f rest g) (f rest g) (omega arith)) (through p f lin same n (λ i. x (suc i)) (λ i. cs (suc i)) g))))

pub single-self : (g : ℕ) → single g g ≡ 1
single-self g = rw (eq-eqb g g refl) refl

pub single-other : (g h : ℕ) → h ≢ g → single g h ≡ 0
single-other g h f = rw (ne_eqb h g f) refl

-- a sum over the generators with one of them picked
pub total_picked : (n g : ℕ) (x : ℕ → ℕ) → g < n → total n (λ t. x t * single t g) ≡ x g
total_picked n g x q =
    total-same n (λ t. x t * single t g) (λ t. cond (eqb g t) 1 0 * x t) (λ t r. omega arith) ∙ total-single n g 1 x q ∙ omega arith

pub total_picked_other : (n g : ℕ) (x : ℕ → ℕ) → g < n → total n (λ t. single g t * x t) ≡ x g
total_picked_other n g x q =
    total-same n (λ t. single g t * x t) (λ t. cond (eqb g t) 1 0 * x t) (λ t r. each t) ∙ total-single n g 1 x q ∙ omega arith
  where
    each : (t : ℕ) → single g t * x t ≡ cond (eqb g t) 1 0 * x t
    each t = ⊎_elim
        (λ e. rw (eq-eqb t g e, eq-eqb g t (sym e)) refl)
        (λ f. let a = ne_eqb t g f in let b = ne_eqb g t (λ e. f (sym e)) in rw a (rw b refl))
        (cases_eq t g)

-- a chain below n is the sum of its generators
pub by_singles : (p n : ℕ) (x : ℕ → ℕ) → ((g : ℕ) → n ≤ g → Same p (x g) 0) → (g : ℕ) → Same p (x g) (total n (λ t. x t * single t g))
by_singles p n x off g = ⊎_elim
    (λ q. exact p _ _ (sym (total_picked n g x q)))
    (λ l. same_trans (off g l) (exact p _ _ (sym (total-same n (λ t. x t * single t g) (λ t. 0) (λ t q. ap (λ v. x t * v) (single-other t g (λ e. absurd (omega arith))) ∙ omega arith) ∙ total-zero n))))
    (cases_lt g n)

-- what a map gives a chain below n
pub of_generators : (p : ℕ) (f : (ℕ → ℕ) → ℕ → ℕ) → IsLinear p f → TellsSame p f
    → (n : ℕ) (x : ℕ → ℕ) → ((g : ℕ) → n ≤ g → Same p (x g) 0) → (g : ℕ) → Same p (f x g) (total n (λ t. x t * f (single t) g))
of_generators p f lin same n x off g =
    same_trans (same x (λ h. total n (λ t. x t * single t h)) (by_singles p n x off) g) (through p f lin same n x single g)
