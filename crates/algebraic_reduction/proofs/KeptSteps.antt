-- Rows of kept steps: one more step, the steps by their places, and the first ones of them.
use Rattle.std.proofs.Common.{◌≡◌, ◌≢◌, ℕ, zero, suc, ◌<◌, ◌≤◌, refl, ap, arith, List, [], ◌∷◌, ◌++◌, length, take}
use Rattle.field_mod.specs.Modular.{Same}
use Rattle.field_mod.proofs.Modular.{same_trans}
use Rattle.algebraic_reduction.specs.Maps.{IsNoB}
use Rattle.algebraic_reduction.specs.Reduction.{Step, IsBoundary, IsStep, IsUnpaired, left, left_all, project, project_all, AreSteps}
use Rattle.std.specs.Prelude.{slice_get, Some}
use Rattle.algebraic_reduction.specs.Laws.{AreApart}
use Rattle.algebraic_reduction.specs.LogWords.{pairs}
use Rattle.algebraic_reduction.specs.Kept.{KeptStep, steps_of, IsKept, AreKept, nth, a_at, b_at, row_at}
use Rattle.algebraic_reduction.proofs.Steps.{IsDead, dead_left, pair-dead_a, step_one}

-- ---- one more step

pub steps_of-append : (ks : List KeptStep) (k : KeptStep) → steps_of (ks ++ k ∷ []) ≡ steps_of ks ++ k.step ∷ []
steps_of-append [] k = refl
steps_of-append (j ∷ ks) k = ap (λ (ss : List Step). j.step ∷ ss) (steps_of-append ks k)

pub length-steps_of : (ks : List KeptStep) → length (steps_of ks) ≡ length ks
length-steps_of [] = refl
length-steps_of (k ∷ ks) = ap suc (length-steps_of ks)

pub left_all-append : (p : ℕ) (D : ℕ → ℕ → ℕ) (ss : List Step) (s : Step) → left_all p D (ss ++ s ∷ []) ≡ left p (left_all p D ss) s
left_all-append p D [] s = refl
left_all-append p D (t ∷ ss) s = left_all-append p (left p D t) ss s

pub project_all-append : (p : ℕ) (D : ℕ → ℕ → ℕ) (ss : List Step) (s : Step) (x : ℕ → ℕ) → project_all p D (ss ++ s ∷ []) x ≡ project p (left_all p D ss) s (project_all p D ss x)
project_all-append p D [] s x = refl
project_all-append p D (t ∷ ss) s x = project_all-append p (left p D t) ss s (project p D t x)

pub AreSteps-append : (p n : ℕ) (D : ℕ → ℕ → ℕ) (ss : List Step) (s : Step) → AreSteps p n D ss → IsStep p n (left_all p D ss) s → AreSteps p n D (ss ++ s ∷ [])
AreSteps-append p n D [] s l st = (st, tt)
AreSteps-append p n D (t ∷ ss) s l st = (l.0, AreSteps-append p n (left p D t) ss s l.1 st)

pub AreKept-append : (p : ℕ) (D : ℕ → ℕ → ℕ) (ks : List KeptStep) (k : KeptStep) → AreKept p D ks → IsKept p (left_all p D (steps_of ks)) k → AreKept p D (ks ++ k ∷ [])
AreKept-append p D [] k l st = (st, tt)
AreKept-append p D (j ∷ ks) k l st = (l.0, AreKept-append p (left p D j.step) ks k l.1 st)

pub IsUnpaired-append : (ss : List Step) (s : Step) (g : ℕ) → IsUnpaired ss g → g ≢ s.a → g ≢ s.b → IsUnpaired (ss ++ s ∷ []) g
IsUnpaired-append [] s g u na nb = (na, nb, tt)
IsUnpaired-append (t ∷ ss) s g u na nb = (u.0, u.1, IsUnpaired-append ss s g u.2 na nb)

-- ---- steps by their places

pub unpaired_at : (ks : List KeptStep) (g : ℕ) → IsUnpaired (steps_of ks) g → (i : ℕ) → i < length ks → (g ≢ a_at ks i) × (g ≢ b_at ks i)
unpaired_at [] g u i l = absurd (omega arith)
unpaired_at (k ∷ ks) g u zero l = (u.0, u.1)
unpaired_at (k ∷ ks) g u (suc i) l = unpaired_at ks g u.2 i (omega arith)

pub unpaired_by : (ks : List KeptStep) (g : ℕ) → ((i : ℕ) → i < length ks → (g ≢ a_at ks i) × (g ≢ b_at ks i)) → IsUnpaired (steps_of ks) g
unpaired_by [] g h = tt
unpaired_by (k ∷ ks) g h = ((h 0 (omega arith)).0, (h 0 (omega arith)).1, unpaired_by ks g (λ i l. h (suc i) (omega arith)))

pub unpaired_no_b : (ss : List Step) (g : ℕ) → IsUnpaired ss g → IsNoB ss g
unpaired_no_b [] g u = tt
unpaired_no_b (s ∷ ss) g u = (u.1, unpaired_no_b ss g u.2)

pub no_b-append : (ss : List Step) (s : Step) (g : ℕ) → IsNoB (ss ++ s ∷ []) g → IsNoB ss g × (g ≢ s.b)
no_b-append [] s g u = (tt, u.0)
no_b-append (t ∷ ss) s g u = let r = no_b-append ss s g u.1 in ((u.0, r.0), r.1)

pub no_b_by : (ks : List KeptStep) (g : ℕ) → ((i : ℕ) → i < length ks → g ≢ b_at ks i) → IsNoB (steps_of ks) g
no_b_by [] g h = tt
no_b_by (k ∷ ks) g h = (h 0 (omega arith), no_b_by ks g (λ i l. h (suc i) (omega arith)))

pub no_b_at : (ks : List KeptStep) (g : ℕ) → IsNoB (steps_of ks) g → (i : ℕ) → i < length ks → g ≢ b_at ks i
no_b_at [] g u i l = absurd (omega arith)
no_b_at (k ∷ ks) g u zero l = u.0
no_b_at (k ∷ ks) g u (suc i) l = no_b_at ks g u.1 i (omega arith)

-- the steps of a list, whose pairs are apart
pub apart_at : (ks : List KeptStep) (i j : ℕ) → AreApart (steps_of ks) → i < j → j < length ks → (a_at ks i ≢ a_at ks j) × (a_at ks i ≢ b_at ks j) × (b_at ks i ≢ a_at ks j) × (b_at ks i ≢ b_at ks j)
apart_at [] i j ap i<j j<n = absurd (omega arith)
apart_at (k ∷ ks) zero zero ap i<j j<n = absurd (omega arith)
apart_at (k ∷ ks) zero (suc j) ap i<j j<n = let u = unpaired_at ks k.step.a ap.0 j (omega arith) in let v = unpaired_at ks k.step.b ap.1 j (omega arith) in (u.0, u.1, v.0, v.1)
apart_at (k ∷ ks) (suc i) zero ap i<j j<n = absurd (omega arith)
apart_at (k ∷ ks) (suc i) (suc j) ap i<j j<n = apart_at ks i j ap.2 (omega arith) (omega arith)

pub pairs_at : (ks : List KeptStep) (i : ℕ) → i < length ks → slice_get (pairs (steps_of ks)) i ≡ Some (a_at ks i, b_at ks i)
pairs_at [] i l = absurd (omega arith)
pairs_at (k ∷ ks) zero l = refl
pairs_at (k ∷ ks) (suc i) l = pairs_at ks i (omega arith)

-- ---- the first steps

pub unpaired_take : (m : ℕ) (ks : List KeptStep) (g : ℕ) → IsUnpaired (steps_of ks) g → IsUnpaired (steps_of (take m ks)) g
unpaired_take zero ks g u = tt
unpaired_take (suc m) [] g u = tt
unpaired_take (suc m) (k ∷ ks) g u = (u.0, u.1, unpaired_take m ks g u.2)

pub apart_take : (m : ℕ) (ks : List KeptStep) → AreApart (steps_of ks) → AreApart (steps_of (take m ks))
apart_take zero ks a = tt
apart_take (suc m) [] a = tt
apart_take (suc m) (k ∷ ks) a = (unpaired_take m ks k.step.a a.0, unpaired_take m ks k.step.b a.1, apart_take m ks a.2)

pub steps_take : (p n : ℕ) (D : ℕ → ℕ → ℕ) (m : ℕ) (ks : List KeptStep) → AreSteps p n D (steps_of ks) → AreSteps p n D (steps_of (take m ks))
steps_take p n D zero ks l = tt
steps_take p n D (suc m) [] l = tt
steps_take p n D (suc m) (k ∷ ks) l = (l.0, steps_take p n (left p D k.step) m ks l.1)

pub kept_take : (p : ℕ) (D : ℕ → ℕ → ℕ) (m : ℕ) (ks : List KeptStep) → AreKept p D ks → AreKept p D (take m ks)
kept_take p D zero ks l = tt
kept_take p D (suc m) [] l = tt
kept_take p D (suc m) (k ∷ ks) l = (l.0, kept_take p (left p D k.step) m ks l.1)

pub take_take : (t m : ℕ) (ks : List KeptStep) → t ≤ m → take t (take m ks) ≡ take t ks
take_take zero m ks l = refl
take_take (suc t) zero ks l = absurd (omega arith)
take_take (suc t) (suc m) [] l = refl
take_take (suc t) (suc m) (k ∷ ks) l = ap (λ (ls : List KeptStep). k ∷ ls) (take_take t m ks (omega arith))

module _ (p n : ℕ) (degree : ℕ → ℕ) (two : 2 ≤ p) where
  pub step_at : (D : ℕ → ℕ → ℕ) (ks : List KeptStep) (i : ℕ) → AreSteps p n D (steps_of ks) → i < length ks → IsStep p n (left_all p D (take i (steps_of ks))) (nth ks i).step
  step_at D [] i l q = absurd (omega arith)
  step_at D (k ∷ ks) zero l q = l.0
  step_at D (k ∷ ks) (suc i) l q = step_at (left p D k.step) ks i l.1 (omega arith)

  pub kept_at : (D : ℕ → ℕ → ℕ) (ks : List KeptStep) (i : ℕ) → AreKept p D ks → i < length ks → IsKept p (left_all p D (take i (steps_of ks))) (nth ks i)
  kept_at D [] i l q = absurd (omega arith)
  kept_at D (k ∷ ks) zero l q = l.0
  kept_at D (k ∷ ks) (suc i) l q = kept_at (left p D k.step) ks i l.1 (omega arith)

  -- a row has nothing at what is dead
  pub row_dead : (D : ℕ → ℕ → ℕ) (ks : List KeptStep) (i v : ℕ) → AreKept p D ks → i < length ks → IsDead p D v → Same p (row_at ks i v) 0
  row_dead D [] i v l q d = absurd (omega arith)
  row_dead D (k ∷ ks) zero v l q d = same_trans (l.0.row v) (d.column k.step.b)
  row_dead D (k ∷ ks) (suc i) v l q d = row_dead (left p D k.step) ks i v l.1 (omega arith) (dead_left p n degree two D k.step v d)

  -- a row has nothing at the a of an earlier step
  pub row_before : (D : ℕ → ℕ → ℕ) (ks : List KeptStep) (i j : ℕ) → IsBoundary p n degree D → AreSteps p n D (steps_of ks) → AreKept p D ks → j < i → i < length ks → Same p (row_at ks i (a_at ks j)) 0
  row_before D [] i j bd st kp j<i q = absurd (omega arith)
  row_before D (k ∷ ks) zero j bd st kp j<i q = absurd (omega arith)
  row_before D (k ∷ ks) (suc i) zero bd st kp j<i q = row_dead (left p D k.step) ks i k.step.a kp.1 (omega arith) (pair-dead_a p n degree two D k.step bd st.0)
  row_before D (k ∷ ks) (suc i) (suc j) bd st kp j<i q = row_before (left p D k.step) ks i j (step_one p n degree two bd st.0) st.1 kp.1 (omega arith) (omega arith)
