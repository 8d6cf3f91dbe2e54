-- A numbered complex in the words of the theory: its grades, its boundary, and its chains of a degree.
use Rattle.std.proofs.Common.{◌≡◌, ◌≢◌, ℕ, zero, suc, ◌+◌, ◌*◌, ◌<◌, ◌≤◌, refl, ap, ◌∙◌, arith, ⊎_elim, List, [], ◌∷◌, length, get_or}
use Rattle.std.proofs.lemmas.Bool.{cases_eq, cases_lt, ltb-false, le-ltb}
use Rattle.std.proofs.lemmas.List.{get_or_past}
use Rattle.field_mod.specs.Modular.{Same}
use Rattle.field_mod.proofs.Sums.{total-same, total-zero}
use Rattle.field_mod.proofs.Modular.{same_by}
use Rattle.chains.specs.Terms.{coefficient}
use Rattle.chains.specs.Homology.{IsChain}
use Rattle.chains.specs.ChainComplex.{ChainComplex, incidence, IsComplex, system}
use Rattle.algebraic_reduction.specs.Reduction.{IsBoundary}

-- two more than the degree of a generator, and 0 where there is none: so no grade of a generator is one more than that of none
abbrev pub grade : List ℕ → ℕ → ℕ
grade [] g = 0
grade (d ∷ ds) zero = d + 2
grade (d ∷ ds) (suc g) = grade ds g

pub grade_in : (ds : List ℕ) (g : ℕ) → g < length ds → grade ds g ≡ get_or ds g 0 + 2
grade_in [] g l = absurd (omega arith)
grade_in (d ∷ ds) zero l = refl
grade_in (d ∷ ds) (suc g) l = grade_in ds g (omega arith)

pub grade_past : (ds : List ℕ) (g : ℕ) → length ds ≤ g → grade ds g ≡ 0
grade_past [] g l = refl
grade_past (d ∷ ds) zero l = absurd (omega arith)
grade_past (d ∷ ds) (suc g) l = grade_past ds g (omega arith)

pub grade_inside : (ds : List ℕ) (g : ℕ) → 0 < grade ds g → g < length ds
grade_inside [] g l = absurd (omega arith)
grade_inside (d ∷ ds) zero l = omega arith
grade_inside (d ∷ ds) (suc g) l = omega (arith, grade_inside ds g l)

incidence_past : (bs : List (List (ℕ × ℕ))) (h g : ℕ) → length bs ≤ h → incidence bs h g ≡ 0
incidence_past bs h g l = ap (λ (c : List (ℕ × ℕ)). coefficient c g) (get_or_past bs h [] l)

pub is_boundary : (p : ℕ) (K : ChainComplex) → IsComplex p K → IsBoundary p (length K.boundaries) (grade K.degrees) (incidence K.boundaries)
is_boundary p K c = record {
  squares_to_zero = λ h g. ⊎_elim
      (λ l. c.squares_to_zero h g l)
      (λ l. same_by p 0 0 _ _ (omega (arith, total-same (length K.boundaries) (λ k. incidence K.boundaries h k * incidence K.boundaries k g) (λ k. 0) (λ k m. ap (λ v. v * incidence K.boundaries k g) (incidence_past K.boundaries h k l) ∙ omega arith), total-zero (length K.boundaries))))
      (cases_lt h (length K.boundaries));
  lowers = λ h g f. ⊎_elim
      (λ z. same_by p 0 0 _ _ (ap (λ v. v + p * 0) z))
      (λ n. ⊎_elim
      (λ l. absurd (c.lowers h g (record { generator = l; misplaced = record { named = n; degree = λ w. f (let a = grade_in K.degrees g w.0 in let s = c.sizes in let b : grade K.degrees h ≡ get_or K.degrees h 0 + 2 = grade_in K.degrees h (omega arith) in let e = w.1 in omega arith) } })))
      (λ l. absurd (n (incidence_past K.boundaries h g l)))
      (cases_lt h (length K.boundaries)))
      (cases_eq (incidence K.boundaries h g) 0);
}

-- a chain of degree k is one of grade k + 2
pub to_grade : (p k : ℕ) (K : ChainComplex) (x : ℕ → ℕ) → length K.degrees ≡ length K.boundaries → IsChain p (system K) k x → (g : ℕ) → grade K.degrees g ≢ k + 2 → Same p (x g) 0
to_grade p k K x e c g f = ⊎_elim
    (λ l. c.of_degree g (λ q. f (let a = grade_in K.degrees g l in omega arith)))
    (λ l. c.on g (le-ltb g (length K.boundaries) (omega arith)))
    (cases_lt g (length K.degrees))

pub of_grade : (p k : ℕ) (K : ChainComplex) (x : ℕ → ℕ) → length K.degrees ≡ length K.boundaries → ((g : ℕ) → grade K.degrees g ≢ k + 2 → Same p (x g) 0) → IsChain p (system K) k x
of_grade p k K x e c = record {
  on = λ g t. c g (λ q. let l : length K.degrees ≤ g = omega (arith, ltb-false g (length K.boundaries) t) in let a = grade_past K.degrees g l in absurd (omega arith));
  of_degree = λ g f. c g (λ q. ⊎_elim (λ l. f (let a = grade_in K.degrees g l in omega arith)) (λ l. let a = grade_past K.degrees g l in absurd (omega arith)) (cases_lt g (length K.degrees)));
}
