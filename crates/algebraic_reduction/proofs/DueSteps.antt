-- Sets of steps that are due, and the solution of the equations with the last ones first.
use Rattle.std.proofs.Common.{◌≡◌, ◌≢◌, ℕ, ◌+◌, ◌-◌, ◌*◌, ◌%◌, ◌^◌, ◌<◌, ◌≤◌, ◌⊎◌, ◌↔◌, inl, inr, refl, sym, ap, ◌∙◌, arith, ⊎_elim, List, [], ◌∷◌, length, get_or, take, cond, eqb, eq-eqb, ne_eqb, subst, Option, Some, None, true, false, Bool, true≢false}
use Rattle.std.specs.Prelude.{IfSome, IfNone, IsSome}
use Rattle.std.specs.Ordering.{is_lt}
use Rattle.std.specs.List.{list_any}
use Rattle.std.specs.Ordering.{nat_cmp}
use Rattle.std.specs.BTreeMap.{is_at}
use Rattle.std.specs.BTreeSet.{BTreeSet, contains, Updates, IsUpperBound, IsEmpty}
use Rattle.std.proofs.lemmas.Bool.{cases_eq, cases_lt}
use Rattle.std.proofs.lemmas.Bool.Decides.{nat_tests}
use Rattle.field_mod.specs.Sums.{total}
use Rattle.field_mod.specs.Modular.{Same, NonZero, minus}
use Rattle.field_mod.proofs.Sums.{total_same}
use Rattle.field_mod.proofs.Modular.{same_by, same_refl, same_trans, same-add, same-scale, same-mul, decide_zero}
use Rattle.chains.specs.Terms.{coefficient, product, IsNormal, IsNormalWithin}
use Rattle.chains.proofs.Boundary.{product-total}
use Rattle.algebraic_reduction.specs.Kept.{KeptStep, b_at}
use Rattle.algebraic_reduction.specs.Maps.{Equations, rest_at}
use Rattle.algebraic_reduction.proofs.NamedRows.{coefficient_other}
use Rattle.algebraic_reduction.proofs.Residues.{negated}
use Rattle.algebraic_reduction.proofs.Triangular.{Settling, IsTriangular, settle_one}

pub at_same : (i : ℕ) → is_at (nat_cmp i) i ≡ true
at_same i = grind (arith, nat_tests)

pub at_other : (i j : ℕ) → i ≢ j → is_at (nat_cmp i) j ≡ false
at_other i j f = grind (arith, nat_tests)

not_below : (i j : ℕ) → is_lt (nat_cmp i j) ≡ false → j ≤ i
not_below i j e = grind (arith, nat_tests)

-- ---- one more step is due

pub insert_kept : (i : ℕ) (old new : BTreeSet ℕ) → Updates nat_cmp old new i true → (j : ℕ) → contains nat_cmp old j ≡ true → contains nat_cmp new j ≡ true
insert_kept i old new u j h = u.0 j ∙ elim (is_at (nat_cmp i) j) as (λ v. cond v true (contains nat_cmp old j) ≡ true) [ true ↦ refl | false ↦ h ]

pub insert_others : (i : ℕ) (old new : BTreeSet ℕ) → Updates nat_cmp old new i true → (j : ℕ) → contains nat_cmp new j ≡ true → (contains nat_cmp old j ≡ true) ⊎ (j ≡ i)
insert_others i old new u j h = ⊎_elim (λ e. inr e) (λ f. inl (sym (ap (λ v. cond v true (contains nat_cmp old j)) (at_other i j (λ q. f (sym q)))) ∙ sym (u.0 j) ∙ h)) (cases_eq j i)

-- ---- the last step that is due is taken out

pub pop_kept : (r : Option ℕ) (old new : BTreeSet ℕ) → IfSome r (λ i. Updates nat_cmp old new i false) → IfSome r (λ i. (j : ℕ) → contains nat_cmp old j ≡ true → (j ≡ i) ⊎ (contains nat_cmp new j ≡ true))
pop_kept r old new h = elim r as (λ o. IfSome o (λ i. Updates nat_cmp old new i false) → IfSome o (λ i. (j : ℕ) → contains nat_cmp old j ≡ true → (j ≡ i) ⊎ (contains nat_cmp new j ≡ true))) [
  | None ↦ λ u. u
  | Some i ↦ λ u j s. ⊎_elim (λ e. inl e) (λ f. inr (u.0 j ∙ ap (λ v. cond v false (contains nat_cmp old j)) (at_other i j (λ q. f (sym q))) ∙ s)) (cases_eq j i)
] h

pub pop_below : (r : Option ℕ) (old new : BTreeSet ℕ) → IfSome r (λ i. Updates nat_cmp old new i false) → IfSome r (IsUpperBound nat_cmp old) → IfSome r (λ i. (j : ℕ) → contains nat_cmp new j ≡ true → j < i)
pop_below r old new h b = elim r as (λ o. IfSome o (λ i. Updates nat_cmp old new i false) → IfSome o (IsUpperBound nat_cmp old) → IfSome o (λ i. (j : ℕ) → contains nat_cmp new j ≡ true → j < i)) [
  | None ↦ λ u w. u
  | Some i ↦ λ u w j s. ⊎_elim
      (λ e. absurd (true≢false (sym s ∙ u.0 j ∙ ap (λ v. cond v false (contains nat_cmp old j)) (ap (λ (x : ℕ). is_at (nat_cmp i) x) e ∙ at_same i))))
      (λ f. let was : contains nat_cmp old j ≡ true = sym (ap (λ v. cond v false (contains nat_cmp old j)) (at_other i j (λ q. f (sym q)))) ∙ sym (u.0 j) ∙ s in let l = not_below i j (w j was) in omega arith)
      (cases_eq j i)
] h b

empty_set : (ks : List ℕ) → (0 < length ks → ⊥) → ks ≡ []
empty_set [] f = refl
empty_set (k ∷ ks) f = absurd (f (omega arith))

pub pop_none : (r : Option ℕ) (old : BTreeSet ℕ) → (IsSome r ↔ (0 < length old.keys)) → IfNone r ((j : ℕ) → contains nat_cmp old j ≡ false)
pop_none r old h = elim r as (λ o. (IsSome o ↔ (0 < length old.keys)) → IfNone o ((j : ℕ) → contains nat_cmp old j ≡ false)) [
  | None ↦ λ v j. let e = empty_set old.keys (λ l. true≢false (sym (v.1 l))) in rw e refl
  | Some i ↦ λ v. tt
] h

-- ---- the sum of an equation, as the product of two chains

narrowed : (p low high m : ℕ) (ts : List (ℕ × ℕ)) → IsNormalWithin p low high ts → ((g : ℕ) → m ≤ g → coefficient ts g ≡ 0) → low ≤ m → IsNormalWithin p low m ts
narrowed p low high m [] h z l = l
narrowed p low high m (t ∷ ts) h z l =
    let inside : t.0 < m = ⊎_elim (λ q. q) (λ q. absurd (let e = z t.0 q in let w = ap (λ v. cond v t.1 0 + coefficient ts t.0) (eq-eqb t.0 t.0 refl) in let pos = h.1 in omega arith)) (cases_lt t.0 m) in
    (h.0, h.1, h.2, narrowed p (t.0 + 1) high m ts h.3 (λ g q. let e = z g q in let w = ap (λ v. cond v t.1 0 + coefficient ts g) (ne_eqb t.0 g (omega arith)) in omega arith) (omega arith))

pub product_rest : (p n v : ℕ) (ts ys : List (ℕ × ℕ)) → IsNormal p ts → ((g : ℕ) → n ≤ g → coefficient ts g ≡ 0) → Same p (coefficient ts v * coefficient ys v) 0 → Same p (product ts ys) (total n (λ g. cond (eqb g v) 0 (coefficient ts g * coefficient ys g)))
product_rest p n v ts ys normal past clean =
    let e = product-total p 0 n ts ys (narrowed p 0 (2 ^ 32) n ts normal past (omega arith)) in
    same_trans (same_by p 0 0 _ _ (ap (λ x. x + p * 0) e)) (total_same p n (λ g. coefficient ts g * coefficient ys g) (λ g. cond (eqb g v) 0 (coefficient ts g * coefficient ys g)) (λ g _. ⊎_elim
    (λ q. rw (eq-eqb g v q) (subst (λ (x : ℕ). Same p (coefficient ts x * coefficient ys x) 0) (sym q) clean))
    (λ f. rw (ne_eqb g v f) (same_refl p _))
    (cases_eq g v)))

-- ---- the turns

pub settling_first : (p n : ℕ) (e : Equations) (y0 y : ℕ → ℕ) (due : ℕ → Bool) → ((g : ℕ) → Same p (y g) (y0 g)) → ((j g : ℕ) → j < e.count → g < n → y0 g ≢ 0 → NonZero p (e.at j g) → due j ≡ true) → ((j : ℕ) → due j ≡ true → j < e.count) → Settling p n e y0 y due e.count
settling_first p n e y0 y due same added below = record {
  bounded = omega arith;
  others = λ g f. same g;
  ahead = λ i l. same (e.pivot i);
  settled = λ i l q. absurd (omega arith);
  waiting = λ i g l m d f. ⊎_elim
      (λ z. same_trans (same-scale (e.at i g) (same g)) (same_by p 0 0 _ _ (ap (λ v. e.at i g * v + p * 0) z ∙ omega arith)))
      (λ nz. ⊎_elim
      (λ s. same_trans (same-mul s (same_refl p (y g))) (same_by p 0 0 _ _ (omega arith)))
      (λ s. absurd (true≢false (sym (added i g l m nz s) ∙ d)))
      (decide_zero p (e.at i g)))
      (cases_eq (y0 g) 0);
  below = below;
}

-- one equation is settled
pub settling_next : (p n : ℕ) (e : Equations) (y0 y y' : ℕ → ℕ) (due after due' : ℕ → Bool) (bound i t : ℕ) → IsTriangular p e → Settling p n e y0 y due bound
    → due i ≡ true
    → ((j : ℕ) → due j ≡ true → (j ≡ i) ⊎ (after j ≡ true))
    → ((j : ℕ) → after j ≡ true → j < i)
    → Same p t (minus p (e.inverse i * rest_at n e y i))
    → ((g : ℕ) → Same p (y' g) (y g + cond (eqb g (e.pivot i)) t 0))
    → ((j : ℕ) → after j ≡ true → due' j ≡ true)
    → ((j : ℕ) → due' j ≡ true → (after j ≡ true) ⊎ (j < i))
    → ((j : ℕ) → j < i → y' (e.pivot i) ≢ 0 → NonZero p (e.at j (e.pivot i)) → due' j ≡ true)
    → Settling p n e y0 y' due' i
settling_next p n e y0 y y' due after due' bound i t tri s here was lower et ey grows inside added =
    settle_one p n e tri y0 y y' due after due' bound i t s (s.below i here) was lower et ey grows
    (λ j d. ⊎_elim (λ a. lower j a) (λ l. l) (inside j d))
    (λ j l d. ⊎_elim
    (λ z. same_trans (same-mul z (same_refl p (y' (e.pivot i)))) (same_by p 0 0 _ _ (omega arith)))
    (λ nz. ⊎_elim
    (λ zero. same_by p 0 0 _ _ (ap (λ v. e.at j (e.pivot i) * v + p * 0) zero ∙ omega arith))
    (λ ne. absurd (true≢false (sym (added j l ne nz) ∙ d)))
    (cases_eq (y' (e.pivot i)) 0))
    (decide_zero p (e.at j (e.pivot i))))

-- ---- the generators of a list, one by one

abbrev pub StandsBelow : ℕ → List ℕ → ℕ → Type 0
StandsBelow k xs x = (m : ℕ) × (m < k) × (get_or xs m 0 ≡ x)

-- the steps before bound whose b stands before k in the list are due
pub record MakingDue (ks : List KeptStep) (names : List ℕ) (bound : ℕ) (first due : ℕ → Bool) (k : ℕ) : Type 0 where
  pub kept : (j : ℕ) → first j ≡ true → due j ≡ true
  pub added : (j : ℕ) → j < bound → StandsBelow k names (b_at ks j) → due j ≡ true
  pub below : (j : ℕ) → due j ≡ true → (first j ≡ true) ⊎ (j < bound)

pub making_first : (ks : List KeptStep) (names : List ℕ) (bound : ℕ) (due : ℕ → Bool) → MakingDue ks names bound due due 0
making_first ks names bound due = record { kept = λ j h. h; added = λ j l s. let q = s.1 in absurd (omega arith); below = λ j h. inl h }

pub making_next : (ks : List KeptStep) (names : List ℕ) (bound name k : ℕ) (first due due' : ℕ → Bool) → MakingDue ks names bound first due k → name ≡ get_or names k 0 → ((j : ℕ) → due j ≡ true → due' j ≡ true) → ((j : ℕ) → j < bound → b_at ks j ≡ name → due' j ≡ true) → ((j : ℕ) → due' j ≡ true → (due j ≡ true) ⊎ (j < bound)) → MakingDue ks names bound first due' (k + 1)
making_next ks names bound name k first due due' m en kept added below = record {
  kept = λ j h. kept j (m.kept j h);
  added = λ j l s. ⊎_elim
      (λ e. added j l (sym s.2 ∙ ap (λ (i : ℕ). get_or names i 0) e ∙ sym en))
      (λ f. kept j (m.added j l (s.0, (let q = s.1 in omega arith), s.2)))
      (cases_eq s.0 k);
  below = λ j h. ⊎_elim (λ d. m.below j d) (λ l. inr l) (below j h);
}

-- the terms of a chain, one by one
pub record MakingAllDue (p n : ℕ) (e : Equations) (ts : List (ℕ × ℕ)) (count : ℕ) (first due : ℕ → Bool) (k : ℕ) : Type 0 where
  pub added : (j g : ℕ) → j < count → g < n → coefficient (take k ts) g ≢ 0 → NonZero p (e.at j g) → due j ≡ true
  pub below : (j : ℕ) → due j ≡ true → (first j ≡ true) ⊎ (j < count)

pub making_all_first : (p n : ℕ) (e : Equations) (ts : List (ℕ × ℕ)) (count : ℕ) (due : ℕ → Bool) → MakingAllDue p n e ts count due due 0
making_all_first p n e ts count due = record { added = λ j g l m nz z. absurd (nz refl); below = λ j h. inl h }

pub making_all_next : (p n : ℕ) (e : Equations) (ts : List (ℕ × ℕ)) (count k : ℕ) (first due due' : ℕ → Bool) → MakingAllDue p n e ts count first due k → k < length ts → ((j : ℕ) → due j ≡ true → due' j ≡ true) → ((j : ℕ) → j < count → (get_or ts k (0, 0)).0 < n → NonZero p (e.at j (get_or ts k (0, 0)).0) → due' j ≡ true) → ((j : ℕ) → due' j ≡ true → (due j ≡ true) ⊎ (j < count)) → MakingAllDue p n e ts count first due' (k + 1)
making_all_next p n e ts count k first due due' m l kept added below = record {
  added = λ j g q w nz z. ⊎_elim
      (λ eq. added j q (subst (λ (x : ℕ). x < n) (sym eq) w) (subst (λ (x : ℕ). NonZero p (e.at j x)) (sym eq) z))
      (λ f. kept j (m.added j g q w (λ v. nz (coefficient_other ts k g l f ∙ v)) z))
      (cases_eq (get_or ts k (0, 0)).0 g);
  below = λ j h. ⊎_elim (λ d. m.below j d) (λ w. inr w) (below j h);
}

-- the value at a pivot that is changed
pub settled_value : (p inverse pivot value x change : ℕ) (eq old new : List (ℕ × ℕ)) → 1 ≤ p → Same p value (product eq old) → x ≡ (inverse * value) % p → change ≡ (p - x) % p → ((g : ℕ) → Same p (coefficient new g) (coefficient old g + cond (eqb g pivot) change 0)) → (g : ℕ) → Same p (coefficient new g) (coefficient old g + cond (eqb g pivot) (minus p (inverse * product eq old)) 0)
settled_value p inverse pivot value x change eq old new pos v ex es en g =
    let c : Same p change (minus p (inverse * product eq old)) = same_trans (negated p (inverse * value) change pos (es ∙ ap (λ u. (p - u) % p) ex)) (same-scale (p - 1) (same-scale inverse v)) in
    same_trans (en g) (same-add (same_refl p (coefficient old g)) (⊎_elim
    (λ e. rw (eq-eqb g pivot e) c)
    (λ f. rw (ne_eqb g pivot f) (same_refl p 0))
    (cases_eq g pivot)))

-- the empty set has nothing
pub empty_has : (s : BTreeSet ℕ) (j : ℕ) → IsEmpty s → contains nat_cmp s j ≡ true → ⊥
empty_has s j e h = true≢false (sym h ∙ ap (λ (ks : List ℕ). list_any (is_at (nat_cmp j)) ks) e)
