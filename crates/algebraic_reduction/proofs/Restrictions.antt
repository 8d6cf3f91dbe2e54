-- Steps by free pairs, and steps within a closed part, leave all other boundaries as they are
use Rattle.std.proofs.Common.{◌≡◌, ◌≢◌, ℕ, ◌+◌, ◌-◌, ◌*◌, ◌⊎◌, inl, inr, refl, ap, ◌∙◌, arith, ⊎_elim, List, [], ◌∷◌, ◌++◌, length, Bool, true, false, cond, eqb, eq-eqb, ne_eqb}
use Rattle.std.proofs.lemmas.Bool.{cases_eq, cases_Bool, both_ways}
use Rattle.field_mod.specs.Modular.{Same, minus}
use Rattle.field_mod.proofs.Modular.{same_by, same_refl, same_trans, same-add, same-scale}
use Rattle.chains.specs.ChainComplex.{incidence}
use Rattle.algebraic_reduction.specs.Reduction.{Step, IsStep, IsUnpaired, AreSteps, left, left_all}
use Rattle.algebraic_reduction.proofs.KeptSteps.{left_all-append, AreSteps-append}
use Rattle.algebraic_reduction.specs.Restrictions.{IsClosedPart, AreWithin, FreeStepsLeaveRestrictions, StepsWithinLeaveRestrictions}
use Rattle.algebraic_reduction.proofs.LinearMaps.{exact}

-- ---- lists of steps, one behind the other

pub unpaired_parts : (ss more : List Step) (g : ℕ) → IsUnpaired (ss ++ more) g → IsUnpaired ss g × IsUnpaired more g
unpaired_parts [] more g u = (tt, u)
unpaired_parts (s ∷ ss) more g u = let w = unpaired_parts ss more g u.2 in ((u.0, u.1, w.0), w.1)

pub unpaired_both : (ss more : List Step) (g : ℕ) → IsUnpaired ss g → IsUnpaired more g → IsUnpaired (ss ++ more) g
unpaired_both [] more g u v = v
unpaired_both (s ∷ ss) more g u v = (u.0, u.1, unpaired_both ss more g u.2 v)

pub left_all-parts : (p : ℕ) (D : ℕ → ℕ → ℕ) (ss more : List Step) → left_all p D (ss ++ more) ≡ left_all p (left_all p D ss) more
left_all-parts p D [] more = refl
left_all-parts p D (s ∷ ss) more = left_all-parts p (left p D s) ss more

pub steps_parts : (p n : ℕ) (D : ℕ → ℕ → ℕ) (ss more : List Step) → AreSteps p n D (ss ++ more) → AreSteps p n D ss × AreSteps p n (left_all p D ss) more
steps_parts p n D [] more l = (tt, l)
steps_parts p n D (s ∷ ss) more l = let w = steps_parts p n (left p D s) ss more l.1 in ((l.0, w.0), w.1)

-- ---- one step

-- what a step leaves away from its pair, where the row or the column through the pair is 0
pub entry_kept : (p : ℕ) (E : ℕ → ℕ → ℕ) (s : Step) (h g : ℕ) → (h ≢ s.a) → (h ≢ s.b) → (g ≢ s.b) → Same p (E h s.a) 0 ⊎ Same p (E s.b g) 0 → Same p (left p E s h g) (E h g)
entry_kept p E s h g na nb nc z = rw (ne_eqb g s.b nc, ne_eqb h s.b nb, ne_eqb h s.a na)
    (⊎_elim
    (λ y. same_trans (same_by p 0 0 _ (E h g + (p - 1) * s.inverse * E s.b g * E h s.a) (omega arith)) (same_trans (same-add (same_refl p (E h g)) (same-scale ((p - 1) * s.inverse * E s.b g) y)) (same_by p 0 0 _ _ (omega arith))))
    (λ y. same_trans (same_by p 0 0 _ (E h g + (p - 1) * s.inverse * E h s.a * E s.b g) (omega arith)) (same_trans (same-add (same_refl p (E h g)) (same-scale ((p - 1) * s.inverse * E h s.a) y)) (same_by p 0 0 _ _ (omega arith))))
    z)

pub free_steps : FreeStepsLeaveRestrictions
free_steps p K ss s l r f =
    let D = incidence K.boundaries in
    let E = left_all p D ss in
    let is_step : IsStep p (length K.boundaries) E s = record { a_in = f.a_in; b_in = f.b_in; apart = f.apart; inverts = same_trans (same-scale s.inverse (r s.b s.a f.b_alive f.a_alive)) f.inverts } in (
      AreSteps-append p (length K.boundaries) D ss s l is_step,
      λ h g u v.
          let a = unpaired_parts ss (s ∷ []) h u in
          let b = unpaired_parts ss (s ∷ []) g v in
          let column : Same p (E h s.a) 0 = same_trans (r h s.a a.0 f.a_alive) (f.only h a.0 a.1.1) in
          same_trans (exact p _ _ (ap (λ (F : ℕ → ℕ → ℕ). F h g) (left_all-append p D ss s))) (same_trans (entry_kept p E s h g a.1.0 a.1.1 b.1.1 (inl column)) (r h g a.0 b.0)),
    )

-- ---- steps within a part

pub apart : (part : ℕ → Bool) (g k : ℕ) → part g ≡ false → part k ≡ true → g ≢ k
apart part g k e f q = both_ways (part g) e (ap part q ∙ f)

module _ (p : ℕ) (E : ℕ → ℕ → ℕ) (part : ℕ → Bool) (closed : IsClosedPart p E part) (s : Step) (in_a : part s.a ≡ true) (in_b : part s.b ≡ true) where
  -- a column outside stays
  entry_outside : (h g : ℕ) → part g ≡ false → (h ≢ s.a) → (h ≢ s.b) → Same p (left p E s h g) (E h g)
  entry_outside h g e na nb = entry_kept p E s h g na nb (apart part g s.b e in_b) (inr (closed s.b g in_b e))

  pub row_zero : (h g : ℕ) → (h ≡ s.a) ⊎ (h ≡ s.b) → left p E s h g ≡ 0
  row_zero h g c = elim (eqb g s.b) as (λ v. cond v 0 (cond (eqb h s.b) 0 (cond (eqb h s.a) 0 (E h g + minus p (s.inverse * E h s.a * E s.b g)))) ≡ 0) [
    | true ↦ refl
    | false ↦ ⊎_elim (λ e. rw (eq-eqb h s.a e) (either (eqb h s.b))) (λ e. rw (eq-eqb h s.b e)) c
  ]
    where
      either : (v : Bool) → ◌≡◌ {A = ℕ} (cond v 0 0) 0
      either true = refl
      either false = refl

  pub closed_left : IsClosedPart p (left p E s) part
  closed_left h g a b = ⊎_elim (λ e. exact p _ _ (row_zero h g (inl e))) (λ na. ⊎_elim (λ e. exact p _ _ (row_zero h g (inr e))) (λ nb. same_trans (entry_outside h g b na nb) (closed h g a b)) (cases_eq h s.b)) (cases_eq h s.a)

  pub kept_left : (h g : ℕ) → part h ≡ false → part g ≡ false → Same p (left p E s h g) (E h g)
  kept_left h g a b = entry_outside h g b (apart part h s.a a in_a) (apart part h s.b a in_b)

pub closed_all : (p : ℕ) (E : ℕ → ℕ → ℕ) (part : ℕ → Bool) (ss : List Step) → IsClosedPart p E part → AreWithin part ss → IsClosedPart p (left_all p E ss) part
closed_all p E part [] c i = c
closed_all p E part (s ∷ ss) c i = closed_all p (left p E s) part ss (closed_left p E part c s i.0 i.1) i.2

pub kept_all : (p : ℕ) (E : ℕ → ℕ → ℕ) (part : ℕ → Bool) (ss : List Step) → IsClosedPart p E part → AreWithin part ss → (h g : ℕ) → part h ≡ false → part g ≡ false → Same p (left_all p E ss h g) (E h g)
kept_all p E part [] c i h g a b = same_refl p (E h g)
kept_all p E part (s ∷ ss) c i h g a b = same_trans (kept_all p (left p E s) part ss (closed_left p E part c s i.0 i.1) i.2 h g a b) (kept_left p E part c s i.0 i.1 h g a b)

pub steps_within : StepsWithinLeaveRestrictions
steps_within p K ss more part r closed inside taken h g u v =
    let D = incidence K.boundaries in
    let a = unpaired_parts ss more h u in
    let b = unpaired_parts ss more g v in
    same_trans (exact p _ _ (ap (λ (F : ℕ → ℕ → ℕ). F h g) (left_all-parts p D ss more)))
    (same_trans (kept_all p (left_all p D ss) part more closed inside h g (outside h u) (outside g v)) (r h g a.0 b.0))
  where
    outside : (k : ℕ) → IsUnpaired (ss ++ more) k → part k ≡ false
    outside k w = ⊎_elim (λ e. absurd (taken k e w)) (λ e. e) (cases_Bool (part k))
