-- One more step: what the fields of a log hold after it.
use Rattle.std.proofs.Common.{◌≡◌, ◌≢◌, ℕ, zero, suc, ◌+◌, ◌*◌, ◌%◌, ◌^◌, ◌<◌, ◌≤◌, ◌⊎◌, inl, inr, refl, sym, ap, ◌∙◌, arith, ⊎_elim, List, [], ◌∷◌, ◌++◌, length, get_or, set, take, mod-eq_of_lt, eqb, ne_eqb, eqb-true, true, false, Bool, ◌||◌, true≢false, subst, length-append, length-set, get_or-set_same, get_or-set_other, Option, Some, None}
use Rattle.std.specs.List.{list_any}
use Rattle.std.proofs.lemmas.Bool.{cases_eq, cases_lt}
use Rattle.std.proofs.lemmas.List.{get_or_append_left}
use Rattle.std.proofs.lemmas.Map.Keys.{IsDistinct-from_apart}
use Rattle.std.proofs.lemmas.Map.Steps.{length-le_from_distinct_below}
use Rattle.std.proofs.Math.Seq.{get_or-append_seam, take-append_seam}
use Rattle.field_mod.specs.Modular.{Same, NonZero}
use Rattle.field_mod.proofs.Modular.{same_by, same_sym, same_trans, same-scale}
use Rattle.chains.specs.Terms.{coefficient}
use Rattle.chains.specs.ChainComplex.{ChainComplex, incidence}
use Rattle.algebraic_reduction.specs.Reduction.{Step, IsStep, IsUnpaired, AreSteps, left}
use Rattle.algebraic_reduction.specs.Laws.{left_of, AreStepsOf}
use Rattle.algebraic_reduction.specs.Kept.{KeptStep, steps_of, IsKept, no_step, nth, a_at, b_at}
use Rattle.algebraic_reduction.specs.LogWords.{IsOneMore}
use Rattle.algebraic_reduction.specs.State.{place_at, IsState}
use Rattle.algebraic_reduction.proofs.Bridge.{grade, is_boundary}
use Rattle.algebraic_reduction.proofs.Linear.{left_all_is_boundary}
use Rattle.algebraic_reduction.proofs.KeptSteps.{steps_of-append, AreSteps-append, AreKept-append, IsUnpaired-append, unpaired_at}

-- a number that is one modulo p with what is not 0 is positive
pub pos_by : (p n x : ℕ) → NonZero p x → Same p n x → 0 < n
pos_by p n x nz e = ⊎_elim (λ z. absurd (nz (same_trans (same_sym e) (same_by p 0 0 _ _ (ap (λ v. v + p * 0) z))))) (λ f. omega arith) (cases_eq n 0)

pub inverse_same : (p i n m : ℕ) → 2 ≤ p → (i * n) % p ≡ 1 → Same p n m → Same p (i * m) 1
inverse_same p i n m two e q = same_trans (same-scale i (same_sym q)) (record { same = e ∙ sym (mod-eq_of_lt two) })

-- ---- how many steps there can be

b_list : List KeptStep → List ℕ
b_list [] = []
b_list (k ∷ ks) = k.step.b ∷ b_list ks

length-b_list : (ks : List KeptStep) → length (b_list ks) ≡ length ks
unfolding b_list
length-b_list [] = refl
length-b_list (k ∷ ks) = ap suc (length-b_list ks)

b_list_at : (ks : List KeptStep) (i d : ℕ) → i < length ks → get_or (b_list ks) i d ≡ b_at ks i
unfolding b_list
b_list_at [] i d l = absurd (omega arith)
b_list_at (k ∷ ks) zero d l = refl
b_list_at (k ∷ ks) (suc i) d l = b_list_at ks i d (omega arith)

b_list_in : (p n : ℕ) (D : ℕ → ℕ → ℕ) (ks : List KeptStep) (q : ℕ) → AreSteps p n D (steps_of ks) → list_any (eqb q) (b_list ks) ≡ true → q < n
unfolding b_list
b_list_in p n D [] q st e = absurd (true≢false (sym e))
b_list_in p n D (k ∷ ks) q st e = ⊎_elim (λ l. let s = eqb-true q k.step.b l in let w = st.0.b_in in omega arith) (λ r. b_list_in p n (left p D k.step) ks q st.1 r) (or_cases (eqb q k.step.b) (list_any (eqb q) (b_list ks)) e)
  where
    or_cases : (x y : Bool) → (x || y) ≡ true → (x ≡ true) ⊎ (y ≡ true)
    or_cases true y h = inl refl
    or_cases false y h = inr h

pub steps_short : (p n : ℕ) (D : ℕ → ℕ → ℕ) (ks : List KeptStep) → AreSteps p n D (steps_of ks) → ((i j : ℕ) → i < j → j < length ks → b_at ks i ≢ b_at ks j) → length ks ≤ n
steps_short p n D ks st apart =
    let d = IsDistinct-from_apart eqb (b_list ks) (λ i j d l m. let lj : j < length ks = omega (arith, length-b_list ks) in rw (b_list_at ks i d (omega arith)) (rw (b_list_at ks j d lj) (ne_eqb (b_at ks i) (b_at ks j) (apart i j l lj)))) in
    let w = length-le_from_distinct_below (b_list ks) n d (λ q e. b_list_in p n D ks q st e) in
    omega (arith, length-b_list ks)

-- ---- what the fields hold after the step

module _ (p : ℕ) (two : 2 ≤ p) (K : ChainComplex) (places places' : List (Option ℕ)) (ks : List KeptStep) (k : KeptStep)
    (state : IsState p K places ks)
    (a_in : k.step.a < length K.boundaries) (b_in : k.step.b < length K.boundaries) (apart : k.step.a ≢ k.step.b)
    (a_alive : IsUnpaired (steps_of ks) k.step.a) (b_alive : IsUnpaired (steps_of ks) k.step.b)
    (inverts : Same p (k.step.inverse * left_of p K (steps_of ks) k.step.b k.step.a) 1)
    (kept_is : IsKept p (left_of p K (steps_of ks)) k)
    (places_is : places' ≡ set (set places k.step.a (Some (length ks))) k.step.b (Some (length ks))) where
  places_at_b : place_at places' k.step.b ≡ Some (length ks)
  places_at_b = ap (λ (ps : List (Option ℕ)). place_at ps k.step.b) places_is ∙ get_or-set_same (set places k.step.a (Some (length ks))) k.step.b (Some (length ks)) None (let c = state.places_count in omega (arith, length-set places k.step.a (Some (length ks)), b_in))

  places_at_a : place_at places' k.step.a ≡ Some (length ks)
  places_at_a = ap (λ (ps : List (Option ℕ)). place_at ps k.step.a) places_is ∙ get_or-set_other (set places k.step.a (Some (length ks))) k.step.b k.step.a (Some (length ks)) None apart ∙ get_or-set_same places k.step.a (Some (length ks)) None (let c = state.places_count in omega (arith, a_in))

  places_other : (g : ℕ) → g ≢ k.step.a → g ≢ k.step.b → place_at places' g ≡ place_at places g
  places_other g na nb = ap (λ (ps : List (Option ℕ)). place_at ps g) places_is ∙ get_or-set_other (set places k.step.a (Some (length ks))) k.step.b g (Some (length ks)) None nb ∙ get_or-set_other places k.step.a g (Some (length ks)) None na

  new_steps : steps_of (ks ++ k ∷ []) ≡ steps_of ks ++ k.step ∷ []
  new_steps = steps_of-append ks k

  new_length : length (ks ++ k ∷ []) ≡ length ks + 1
  new_length = length-append ks (k ∷ [])

  front : (i : ℕ) → i < length ks → nth (ks ++ k ∷ []) i ≡ nth ks i
  front i l = get_or_append_left ks (k ∷ []) no_step i l

  last : nth (ks ++ k ∷ []) (length ks) ≡ k
  last = get_or-append_seam ks k [] no_step

  -- a fact of each step, old and new
  by_step : (P : ℕ → KeptStep → Type 0) → ((i : ℕ) → i < length ks → P i (nth ks i)) → P (length ks) k → (i : ℕ) → i < length (ks ++ k ∷ []) → P i (nth (ks ++ k ∷ []) i)
  by_step P old new i l = ⊎_elim
      (λ q. subst (λ (s : KeptStep). P i s) (sym (front i q)) (old i q))
      (λ q. let e : i ≡ length ks = omega (arith, new_length) in subst (λ (j : ℕ). P j (nth (ks ++ k ∷ []) j)) (sym e) (subst (λ (s : KeptStep). P (length ks) s) (sym last) new))
      (cases_lt i (length ks))

  unpaired_new : (g : ℕ) → IsUnpaired (steps_of (ks ++ k ∷ [])) g → IsUnpaired (steps_of ks) g × (g ≢ k.step.a) × (g ≢ k.step.b)
  unpaired_new g u = parts (steps_of ks) (subst (λ (ss : List Step). IsUnpaired ss g) new_steps u)
    where
      parts : (ss : List Step) → IsUnpaired (ss ++ k.step ∷ []) g → IsUnpaired ss g × (g ≢ k.step.a) × (g ≢ k.step.b)
      parts [] u = (tt, u.0, u.1)
      parts (s ∷ ss) u = let r = parts ss u.2 in ((u.0, u.1, r.0), r.1, r.2)

  step_is : IsStep p (length K.boundaries) (left_of p K (steps_of ks)) k.step
  step_is = record { a_in = a_in; b_in = b_in; apart = apart; inverts = inverts }

  pub state_more : IsState p K places' (ks ++ k ∷ [])
  state_more = record {
    complex = state.complex;
    places_count = ap length places_is ∙ length-set (set places k.step.a (Some (length ks))) k.step.b (Some (length ks)) ∙ length-set places k.step.a (Some (length ks)) ∙ state.places_count;
    steps = subst (λ (ss : List Step). AreStepsOf p K ss) (sym new_steps) (AreSteps-append p (length K.boundaries) (incidence K.boundaries) (steps_of ks) k.step state.steps step_is);
    kept = AreKept-append p (incidence K.boundaries) ks k state.kept kept_is;
    placed = by_step (λ (i : ℕ) (s : KeptStep). (place_at places' s.step.a ≡ Some i) × (place_at places' s.step.b ≡ Some i)) (λ i l. let r = state.placed i l in let ua = unpaired_at ks k.step.a a_alive i l in let ub = unpaired_at ks k.step.b b_alive i l in (places_other (a_at ks i) (λ e. ua.0 (sym e)) (λ e. ub.0 (sym e)) ∙ r.0, places_other (b_at ks i) (λ e. ua.1 (sym e)) (λ e. ub.1 (sym e)) ∙ r.1)) (places_at_a, places_at_b);
    in_step = λ g i e. ⊎_elim
        (λ q. own_a g i q e)
        (λ na. ⊎_elim (λ q. own_b g i q e) (λ nb. let r = state.in_step g i (sym (places_other g na nb) ∙ e) in ((omega (arith, new_length, r.0)), (λ u. r.1 (unpaired_new g u).0))) (cases_eq g k.step.b))
        (cases_eq g k.step.a);
    in_none = λ g e. ⊎_elim
        (λ q. absurd (no_place (sym places_at_a ∙ ap (λ (x : ℕ). place_at places' x) (sym q) ∙ e)))
        (λ na. ⊎_elim (λ q. absurd (no_place (sym places_at_b ∙ ap (λ (x : ℕ). place_at places' x) (sym q) ∙ e))) (λ nb. subst (λ (ss : List Step). IsUnpaired ss g) (sym new_steps) (IsUnpaired-append (steps_of ks) k.step g (state.in_none g (sym (places_other g na nb) ∙ e)) na nb)) (cases_eq g k.step.b))
        (cases_eq g k.step.a);
  }
    where
      no_place : {i : ℕ} → Some i ≡ None → ⊥
      no_place e = cc

      some_is : (i j : ℕ) → Some i ≡ Some j → i ≡ j
      some_is i j e = cc

      own_a : (g i : ℕ) → g ≡ k.step.a → place_at places' g ≡ Some i → (i < length (ks ++ k ∷ [])) × (IsUnpaired (steps_of (ks ++ k ∷ [])) g → ⊥)
      own_a g i q e = let s = some_is (length ks) i (sym places_at_a ∙ ap (λ (x : ℕ). place_at places' x) (sym q) ∙ e) in ((omega (arith, new_length)), (λ u. (unpaired_new g u).1 q))

      own_b : (g i : ℕ) → g ≡ k.step.b → place_at places' g ≡ Some i → (i < length (ks ++ k ∷ [])) × (IsUnpaired (steps_of (ks ++ k ∷ [])) g → ⊥)
      own_b g i q e = let s = some_is (length ks) i (sym places_at_b ∙ ap (λ (x : ℕ). place_at places' x) (sym q) ∙ e) in ((omega (arith, new_length)), (λ u. (unpaired_new g u).2 q))

-- there are fewer than 2^32 steps
pub state_short : (p : ℕ) (K : ChainComplex) (places : List (Option ℕ)) (ks : List KeptStep) → IsState p K places ks → length ks < 2 ^ 32
state_short p K places ks s =
    let c = s.complex in
    let l = steps_short p (length K.boundaries) (incidence K.boundaries) ks s.steps (λ i j l m e. absurd (different i j l (sym (s.placed i (omega arith)).1 ∙ ap (λ (x : ℕ). place_at places x) e ∙ (s.placed j m).1))) in
    omega (arith, c.short)
  where
    same_place : (i j : ℕ) → Some i ≡ Some j → i ≡ j
    same_place i j e = cc

    different : (i j : ℕ) → i < j → Some i ≡ Some j → ⊥
    different i j l e = let q = same_place i j e in absurd (omega arith)

-- two generators with an incidence number that is not 0 are different
pub state_apart : (p a b : ℕ) (K : ChainComplex) (places : List (Option ℕ)) (ks : List KeptStep) → 2 ≤ p → IsState p K places ks → NonZero p (left_of p K (steps_of ks) b a) → a ≢ b
state_apart p a b K places ks two s nz e =
    let d = grade K.degrees in
    let lb = left_all_is_boundary p (length K.boundaries) d two (incidence K.boundaries) (steps_of ks) (is_boundary p K s.complex) s.steps in
    nz (lb.lowers b a (λ q. let r = ap d e in absurd (omega arith)))

pub written : {A : Type 0} (n : ℕ) (xs ys : List A) → n ≡ length xs → take n (xs ++ ys) ≡ xs
written n xs ys e = ap (λ k. take k (xs ++ ys)) e ∙ take-append_seam xs ys

pub state_after : (p a b m inverse : ℕ) (two : 2 ≤ p) (K : ChainComplex) (row : List (ℕ × ℕ)) (places : List (Option ℕ)) (ks ks' : List KeptStep) (k : KeptStep)
    → IsState p K places ks
    → (a < length K.boundaries) × IsUnpaired (steps_of ks) a → (b < length K.boundaries) × IsUnpaired (steps_of ks) b
    → k ≡ record { step = record { a = a; b = b; inverse = inverse }; row = row }
    → ((g : ℕ) → Same p (coefficient row g) (left_of p K (steps_of ks) b g))
    → NonZero p (left_of p K (steps_of ks) b a)
    → Same p (inverse * left_of p K (steps_of ks) b a) 1
    → m ≡ length ks → ks' ≡ ks ++ k ∷ []
    → IsState p K (set (set places a (Some m)) b (Some m)) ks'
state_after p a b m inverse two K row places ks ks' k s ia ib ek er nz inverts em eks =
    subst (λ (l : List KeptStep). IsState p K (set (set places a (Some m)) b (Some m)) l) (sym (eks ∙ ap (λ (t : KeptStep). ks ++ t ∷ []) ek))
    (state_more p two K places (set (set places a (Some m)) b (Some m)) ks (record { step = record { a = a; b = b; inverse = inverse }; row = row }) s ia.0 ib.0 (state_apart p a b K places ks two s nz) ia.1 ib.1 inverts (record { row = er })
    (ap (λ (i : ℕ). set (set places a (Some i)) b (Some i)) em))

-- there is room for the number of the step and 1 more
pub state_room : (p a b m inverse : ℕ) (two : 2 ≤ p) (K : ChainComplex) (row : List (ℕ × ℕ)) (places : List (Option ℕ)) (ks : List KeptStep)
    → IsState p K places ks
    → (a < length K.boundaries) × IsUnpaired (steps_of ks) a → (b < length K.boundaries) × IsUnpaired (steps_of ks) b
    → ((g : ℕ) → Same p (coefficient row g) (left_of p K (steps_of ks) b g))
    → NonZero p (left_of p K (steps_of ks) b a)
    → Same p (inverse * left_of p K (steps_of ks) b a) 1
    → m ≡ length ks → m + 1 < 2 ^ 32
state_room p a b m inverse two K row places ks s ia ib er nz inverts em =
    let k : KeptStep = record { step = record { a = a; b = b; inverse = inverse }; row = row } in
    let after = state_after p a b m inverse two K row places ks (ks ++ k ∷ []) k s ia ib refl er nz inverts em refl in
    omega (arith, state_short p K (set (set places a (Some m)) b (Some m)) (ks ++ k ∷ []) after, length-append ks (k ∷ []), em)

-- the steps are the old ones and that of a and b
pub one_more : (a b : ℕ) (ks ks' : List KeptStep) (k : KeptStep) → ks' ≡ ks ++ k ∷ [] → k.step.a ≡ a → k.step.b ≡ b → IsOneMore (steps_of ks) (steps_of ks') a b
one_more a b ks ks' k e ea eb = record {
  inverse = k.step.inverse;
  steps = ap steps_of e ∙ steps_of-append ks k ∙ ap (λ (x : ℕ). steps_of ks ++ (record { a = x; b = k.step.b; inverse = k.step.inverse }) ∷ []) ea ∙ ap (λ (x : ℕ). steps_of ks ++ (record { a = a; b = x; inverse = k.step.inverse }) ∷ []) eb;
}
