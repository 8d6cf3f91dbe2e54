-- From state to state: steps are added, and where nothing is left of a boundary nothing comes back.
use Rattle.std.proofs.Common.{◌≡◌, ℕ, ◌+◌, ◌-◌, ◌*◌, ◌<◌, ◌≤◌, refl, sym, ap, ◌∙◌, arith, ⊎_elim, List, [], ◌∷◌, ◌++◌, length, cond, eqb, eq-eqb, subst, Option, Some, None, true≢false, true, false, append_assoc}
use Rattle.std.specs.Prelude.{is_some}
use Rattle.std.proofs.lemmas.Bool.{cases_eq, cases_lt}
use Rattle.field_mod.specs.Modular.{Same, NonZero, minus}
use Rattle.field_mod.proofs.Modular.{same_by, same_refl, same_sym, same_trans, same-add, same-scale, same-mul}
use Rattle.chains.specs.Terms.{coefficient}
use Rattle.chains.specs.ChainComplex.{ChainComplex, incidence}
use Rattle.algebraic_reduction.specs.Reduction.{Step, IsUnpaired, IsOnLeft, left, left_all}
use Rattle.algebraic_reduction.specs.Laws.{left_of, NothingLeft}
use Rattle.algebraic_reduction.specs.LogWords.{IsOneMore}
use Rattle.algebraic_reduction.specs.Kept.{KeptStep, steps_of}
use Rattle.algebraic_reduction.specs.State.{IsState, GoesOn, place_at}
use Rattle.algebraic_reduction.proofs.Bridge.{grade, grade_in, grade_past, is_boundary}
use Rattle.algebraic_reduction.proofs.Linear.{paired_dead, left_all_is_boundary}
use Rattle.algebraic_reduction.proofs.LeftBasis.{decide_unpaired}
use Rattle.algebraic_reduction.proofs.KeptSteps.{left_all-append}
use Rattle.algebraic_reduction.proofs.Residues.{same_zero}
use Rattle.algebraic_reduction.proofs.Restrictions.{left_all-parts}
use Rattle.algebraic_reduction.proofs.LinearMaps.{exact}
use Rattle.algebraic_reduction.proofs.Singles.{on_left_by}

append_none : {A : Type 0} (xs : List A) → xs ≡ xs ++ []
append_none [] = refl
append_none {A} (x ∷ xs) = ap (λ (ys : List A). x ∷ ys) (append_none xs)

pub is_placed : (o : Option ℕ) → is_some o ≡ true → (i : ℕ) × (o ≡ Some i)
is_placed None e = absurd (true≢false (sym e))
is_placed (Some i) e = (i, refl)

pub is_free : (o : Option ℕ) → is_some o ≡ false → o ≡ None
is_free None e = refl
is_free (Some i) e = absurd (true≢false e)

pub goes_refl : (K : ChainComplex) (ks : List KeptStep) → GoesOn K K ks ks
goes_refl K ks = record { complex = refl; further = record { more = []; steps = append_none (steps_of ks) } }

pub goes_trans : (K K' K2 : ChainComplex) (ks ks' ks2 : List KeptStep) → GoesOn K K' ks ks' → GoesOn K' K2 ks' ks2 → GoesOn K K2 ks ks2
goes_trans K K' K2 ks ks' ks2 f s = record {
  complex = s.complex ∙ f.complex;
  further = record { more = f.further.more ++ s.further.more; steps = s.further.steps ∙ ap (λ (ss : List Step). ss ++ s.further.more) f.further.steps ∙ append_assoc (steps_of ks) f.further.more s.further.more };
}

pub goes_after : (a b : ℕ) (K : ChainComplex) (ks ks' : List KeptStep) → IsOneMore (steps_of ks) (steps_of ks') a b → GoesOn K K ks ks'
goes_after a b K ks ks' one = record {
  complex = refl;
  further = record { more = (record { a = a; b = b; inverse = one.inverse }) ∷ []; steps = one.steps };
}

left_zero : (p : ℕ) (D : ℕ → ℕ → ℕ) (s : Step) (h g : ℕ) → ((k : ℕ) → Same p (D h k) 0) → Same p (left p D s h g) 0
left_zero p D s h g z = elim (eqb g s.b) as (λ v. Same p (cond v 0 (cond (eqb h s.b) 0 (cond (eqb h s.a) 0 (D h g + minus p (s.inverse * D h s.a * D s.b g))))) 0) [
  | true ↦ same_refl p 0
  | false ↦ elim (eqb h s.b) as (λ v. Same p (cond v 0 (cond (eqb h s.a) 0 (D h g + minus p (s.inverse * D h s.a * D s.b g)))) 0) [
    | true ↦ same_refl p 0
    | false ↦ elim (eqb h s.a) as (λ v. Same p (cond v 0 (D h g + minus p (s.inverse * D h s.a * D s.b g))) 0) [
      | true ↦ same_refl p 0
      | false ↦ same_trans (same-add (z g) (same-scale (p - 1) (same-mul (same-scale s.inverse (z s.a)) (same_refl p (D s.b g))))) (same_by p 0 0 _ _ (omega arith))
    ]
  ]
]

left_taken : (p : ℕ) (D : ℕ → ℕ → ℕ) (s : Step) (g : ℕ) → left p D s s.b g ≡ 0
left_taken p D s g = elim (eqb g s.b) as (λ v. cond v 0 (cond (eqb s.b s.b) 0 (cond (eqb s.b s.a) 0 (D s.b g + minus p (s.inverse * D s.b s.a * D s.b g)))) ≡ 0) [ true ↦ refl | false ↦ rw (eq-eqb s.b s.b refl) refl ]

left_zero_all : (p : ℕ) (D : ℕ → ℕ → ℕ) (ss : List Step) (h : ℕ) → ((k : ℕ) → Same p (D h k) 0) → (g : ℕ) → Same p (left_all p D ss h g) 0
left_zero_all p D [] h z g = z g
left_zero_all p D (s ∷ ss) h z g = left_zero_all p (left p D s) ss h (λ k. left_zero p D s h k z) g

-- where nothing is left of a boundary, further steps leave nothing
pub stays_empty : (p : ℕ) (K K' : ChainComplex) (ks ks' : List KeptStep) → GoesOn K K' ks ks' → (h : ℕ) → ((g : ℕ) → Same p (left_of p K (steps_of ks) h g) 0) → (g : ℕ) → Same p (left_of p K' (steps_of ks') h g) 0
stays_empty p K K' ks ks' go h z g =
    subst (λ (L : ChainComplex). Same p (left_of p L (steps_of ks') h g) 0) (sym go.complex)
    (subst (λ (ss : List Step). Same p (left_of p K ss h g) 0) (sym go.further.steps)
    (subst (λ (D : ℕ → ℕ → ℕ). Same p (D h g) 0) (sym (left_all-parts p (incidence K.boundaries) (steps_of ks) go.further.more))
    (left_zero_all p (left_of p K (steps_of ks)) go.further.more h z g)))

-- after a step nothing is left of the boundary of b
pub taken_after : (p a b : ℕ) (K : ChainComplex) (ks ks' : List KeptStep) → IsOneMore (steps_of ks) (steps_of ks') a b → (g : ℕ) → Same p (left_of p K (steps_of ks') b g) 0
taken_after p a b K ks ks' one g =
    subst (λ (ss : List Step). Same p (left_of p K ss b g) 0) (sym one.steps)
    (subst (λ (D : ℕ → ℕ → ℕ). Same p (D b g) 0) (sym (left_all-append p (incidence K.boundaries) (steps_of ks) (record { a = a; b = b; inverse = one.inverse })))
    (same_by p 0 0 _ _ (ap (λ v. v + p * 0) (left_taken p (left_of p K (steps_of ks)) (record { a = a; b = b; inverse = one.inverse }) g))))

-- nothing is left of the boundary of a generator in a step
pub paired_empty : (p b : ℕ) (K : ChainComplex) (places : List (Option ℕ)) (ks : List KeptStep) → 2 ≤ p → IsState p K places ks → ¬ IsUnpaired (steps_of ks) b → (g : ℕ) → Same p (left_of p K (steps_of ks) b g) 0
paired_empty p b K places ks two s w g = (paired_dead p (length K.boundaries) (grade K.degrees) two (incidence K.boundaries) (steps_of ks) b (is_boundary p K s.complex) s.steps w).row g

-- a generator with an incidence number that is not 0 is one of the complex, and in no step
pub nonzero_alive : (p a b : ℕ) (K : ChainComplex) (places : List (Option ℕ)) (ks : List KeptStep) → 2 ≤ p → IsState p K places ks → NonZero p (left_of p K (steps_of ks) b a) → (a < length K.boundaries) × IsUnpaired (steps_of ks) a
nonzero_alive p a b K places ks two s nz =
    let c = s.complex in
    let n = length K.boundaries in
    let d = grade K.degrees in
    let bd = is_boundary p K c in
    let lb = left_all_is_boundary p n d two (incidence K.boundaries) (steps_of ks) bd s.steps in (
      (⊎_elim (λ l. l) (λ l. absurd (nz (lb.lowers b a (λ e. high b (let z = grade_past K.degrees a (omega (arith, c.sizes)) in omega arith))))) (cases_lt a n)),
      (⊎_elim (λ u. u) (λ w. absurd (nz ((paired_dead p n d two (incidence K.boundaries) (steps_of ks) a bd s.steps w).column b))) (decide_unpaired (steps_of ks) a)),
    )
  where
    high : (h : ℕ) → 1 ≡ grade K.degrees h → ⊥
    high h e = ⊎_elim (λ l. let w = grade_in K.degrees h l in absurd (omega arith)) (λ l. let w = grade_past K.degrees h l in absurd (omega arith)) (cases_lt h (length K.degrees))

-- a number that is positive and below p, as what it is modulo p
pub nonzero_by : (p n x : ℕ) → 0 < n → n < p → Same p n x → NonZero p x
nonzero_by p n x pos low e z = absurd (let q = same_zero p n low (same_trans e z) in omega arith)

-- one more boundary is empty
pub empty_more : (p b : ℕ) (K K' : ChainComplex) (ks ks' : List KeptStep) → ((h : ℕ) → h < b → (g : ℕ) → Same p (left_of p K (steps_of ks) h g) 0) → GoesOn K K' ks ks' → ((g : ℕ) → Same p (left_of p K' (steps_of ks') b g) 0) → (h : ℕ) → h < b + 1 → (g : ℕ) → Same p (left_of p K' (steps_of ks') h g) 0
empty_more p b K K' ks ks' inv go here h l g = ⊎_elim (λ e. subst (λ (k : ℕ). Same p (left_of p K' (steps_of ks') k g) 0) (sym e) (here g)) (λ f. stays_empty p K K' ks ks' go h (inv h (omega arith)) g) (cases_eq h b)

-- no boundary is left
pub empty_all : (p n : ℕ) (K : ChainComplex) (places : List (Option ℕ)) (ks : List KeptStep) → 2 ≤ p → IsState p K places ks → n ≡ length K.boundaries → ((h : ℕ) → h < n → (g : ℕ) → Same p (left_of p K (steps_of ks) h g) 0) → NothingLeft p K (steps_of ks)
empty_all p n K places ks two s e inv h g = ⊎_elim
    (λ l. inv h l g)
    (λ l.
    let c = s.complex in
    let d = grade K.degrees in
    let lb = left_all_is_boundary p (length K.boundaries) d two (incidence K.boundaries) (steps_of ks) (is_boundary p K s.complex) s.steps in
    lb.lowers h g (λ q. let z = grade_past K.degrees h (omega (arith, c.sizes)) in absurd (omega arith)))
    (cases_lt h n)

-- a row without terms: nothing is left
pub empty_row : (p : ℕ) (row : List (ℕ × ℕ)) (g x : ℕ) → length row ≡ 0 → Same p (coefficient row g) x → Same p x 0
empty_row p [] g x e s = same_sym s
empty_row p (t ∷ ts) g x e s = absurd (omega arith)

-- a chain that has nothing where a step is told is one on what is left
pub off_steps : (p : ℕ) (K : ChainComplex) (places : List (Option ℕ)) (ks : List KeptStep) → IsState p K places ks → (x : ℕ → ℕ) → ((g i : ℕ) → place_at places g ≡ Some i → x g ≡ 0) → IsOnLeft p (steps_of ks) x
off_steps p K places ks s x off = on_left_by p (steps_of ks) x (λ g f. by_place g f (place_at places g) refl)
  where
    by_place : (g : ℕ) → (IsUnpaired (steps_of ks) g → ⊥) → (o : Option ℕ) → place_at places g ≡ o → Same p (x g) 0
    by_place g f None e = absurd (f (s.in_none g e))
    by_place g f (Some i) e = exact p _ 0 (off g i e)
