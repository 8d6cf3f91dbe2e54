-- The classes of a degree while they are collected, generator after generator.
use Rattle.std.proofs.Common.{◌≡◌, ◌≢◌, ℕ, ◌+◌, ◌<◌, ◌⊎◌, ◌==◌, if◌then◌else◌, inl, inr, refl, sym, ap, ◌∙◌, arith, ⊎_elim, eq-eqb, ne_eqb, List, [], ◌∷◌, ◌++◌, length, length-append, get_or, Bool, subst}
use Rattle.std.proofs.lemmas.Bool.{cases_eq, cases_lt}
use Rattle.std.proofs.lemmas.List.{get_or_append_left}
use Rattle.std.proofs.Math.Seq.{get_or-append_seam}
use Rattle.chains.specs.ChainComplex.{ChainComplex}
use Rattle.algebraic_reduction.specs.Reduction.{Step, IsUnpaired}
use Rattle.homology_basis.specs.Bases.{in_degree}
use Rattle.homology_basis.specs.Classes.{ClassOf, IsClass, AreClassesBelow}

-- no generator is below 0
pub none_below : (p : ℕ) (K : ChainComplex) (ss : List Step) (wanted : Bool) (k : ℕ) → AreClassesBelow p K ss wanted 0 k []
none_below p K ss wanted k = record {
  few = omega arith;
  each = λ i d q. absurd (omega arith);
  below = λ i d q. absurd (omega arith);
  of_degree = λ i d q. absurd (omega arith);
  ascending = λ i j d l q. absurd (omega arith);
  all = λ g d q l e u. absurd (omega arith);
}

-- the next generator is not left, or of another degree
pub stays : (p : ℕ) (K : ChainComplex) (ss : List Step) (wanted : Bool) (b k : ℕ) (cs : List ClassOf) → AreClassesBelow p K ss wanted b k cs
    → (get_or K.degrees b 0 ≡ k → IsUnpaired ss b → ⊥) → AreClassesBelow p K ss wanted (b + 1) k cs
stays p K ss wanted b k cs x other = record {
  few = omega (arith, x.few);
  each = x.each;
  below = λ i d q. omega (arith, x.below i d q);
  of_degree = x.of_degree;
  ascending = x.ascending;
  all = λ g d q l e u. ⊎_elim
      (λ lt. x.all g d lt l e u)
      (λ ge. let same : g ≡ b = omega arith in absurd (other (subst (λ (v : ℕ). get_or K.degrees v 0 ≡ k) same e) (subst (IsUnpaired ss) same u)))
      (cases_lt g b);
}

-- a place of a list with one more entry is one of the list, or the last
last_or : (cs : List ClassOf) (c : ClassOf) (i : ℕ) (d : ClassOf) → i < length (cs ++ c ∷ [])
    → ((i < length cs) × (get_or (cs ++ c ∷ []) i d ≡ get_or cs i d)) ⊎ ((i ≡ length cs) × (get_or (cs ++ c ∷ []) i d ≡ c))
last_or cs c i d q = ⊎_elim
    (λ lt. inl (lt, get_or_append_left cs (c ∷ []) d i lt))
    (λ ge. let e : i ≡ length cs = omega (arith, length-append cs (c ∷ [])) in inr (e, ap (λ v. get_or (cs ++ c ∷ []) v d) e ∙ get_or-append_seam cs c [] d))
    (cases_lt i (length cs))

-- the next generator is left and of this degree
pub added : (p : ℕ) (K : ChainComplex) (ss : List Step) (wanted : Bool) (b k : ℕ) (cs : List ClassOf) (c : ClassOf) → AreClassesBelow p K ss wanted b k cs
    → IsClass p K ss wanted c → c.generator ≡ b → get_or K.degrees b 0 ≡ k → AreClassesBelow p K ss wanted (b + 1) k (cs ++ c ∷ [])
added p K ss wanted b k cs c x is at degree = record {
  few = omega (arith, x.few, length-append cs (c ∷ []));
  each = λ i d q. ⊎_elim
      (λ w. subst (IsClass p K ss wanted) (sym w.1) (x.each i d w.0))
      (λ w. subst (IsClass p K ss wanted) (sym w.1) is)
      (last_or cs c i d q);
  below = λ i d q. ⊎_elim
      (λ w. subst (λ (v : ClassOf). v.generator < b + 1) (sym w.1) (omega (arith, x.below i d w.0)))
      (λ w. subst (λ (v : ClassOf). v.generator < b + 1) (sym w.1) (omega (arith, at)))
      (last_or cs c i d q);
  of_degree = λ i d q. ⊎_elim
      (λ w. subst (λ (v : ClassOf). get_or K.degrees v.generator 0 ≡ k) (sym w.1) (x.of_degree i d w.0))
      (λ w. subst (λ (v : ClassOf). get_or K.degrees v.generator 0 ≡ k) (sym w.1) (ap (λ v. get_or K.degrees v 0) at ∙ degree))
      (last_or cs c i d q);
  ascending = λ i j d l q. ⊎_elim
      (λ w. let before : i < length cs = let s = w.0 in omega arith in subst (λ (v : ClassOf). v.generator < (get_or (cs ++ c ∷ []) j d).generator) (sym (get_or_append_left cs (c ∷ []) d i before)) (subst (λ (v : ClassOf). (get_or cs i d).generator < v.generator) (sym w.1) (x.ascending i j d l w.0)))
      (λ w. let before : i < length cs = let s = w.0 in omega arith in subst (λ (v : ClassOf). v.generator < (get_or (cs ++ c ∷ []) j d).generator) (sym (get_or_append_left cs (c ∷ []) d i before)) (subst (λ (v : ClassOf). (get_or cs i d).generator < v.generator) (sym w.1) (omega (arith, x.below i d before, at))))
      (last_or cs c j d q);
  all = λ g d q l e u. ⊎_elim
      (λ lt. let f = x.all g d lt l e u in (f.0, (let s = f.1 in omega (arith, length-append cs (c ∷ []))), ap (λ v. v.generator) (get_or_append_left cs (c ∷ []) d f.0 f.1) ∙ f.2))
      (λ ge. (length cs, (omega (arith, length-append cs (c ∷ []))), ap (λ v. v.generator) (get_or-append_seam cs c [] d) ∙ at ∙ omega arith))
      (cases_lt g b);
}

-- one more class in its degree
pub next_class : (p : ℕ) (K : ChainComplex) (ss : List Step) (wanted : Bool) (b degree : ℕ) (css now : List (List ClassOf)) (c : ClassOf)
    → ((k : ℕ) → AreClassesBelow p K ss wanted b k (in_degree css k)) → IsClass p K ss wanted c → c.generator ≡ b → degree ≡ get_or K.degrees b 0
    → ((k : ℕ) → in_degree now k ≡ (if k == degree then in_degree css k ++ c ∷ [] else in_degree css k))
    → (k : ℕ) → AreClassesBelow p K ss wanted (b + 1) k (in_degree now k)
next_class p K ss wanted b degree css now c x is at d e k = ⊎_elim
    (λ s. subst (AreClassesBelow p K ss wanted (b + 1) k) (sym (e k ∙ chosen s)) (added p K ss wanted b k (in_degree css k) c (x k) is at (sym d ∙ sym s)))
    (λ o. subst (AreClassesBelow p K ss wanted (b + 1) k) (sym (e k ∙ passed o)) (stays p K ss wanted b k (in_degree css k) (x k) (λ s u. o (sym s ∙ sym d))))
    (cases_eq k degree)
  where
    chosen : k ≡ degree → (if k == degree then in_degree css k ++ c ∷ [] else in_degree css k) ≡ in_degree css k ++ c ∷ []
    chosen s = rw (eq-eqb k degree s) refl

    passed : k ≢ degree → (if k == degree then in_degree css k ++ c ∷ [] else in_degree css k) ≡ in_degree css k
    passed o = rw (ne_eqb k degree o) refl

-- a generator that is not left
pub no_class_more : (p : ℕ) (K : ChainComplex) (ss : List Step) (wanted : Bool) (b : ℕ) (css now : List (List ClassOf))
    → ((k : ℕ) → AreClassesBelow p K ss wanted b k (in_degree css k)) → (IsUnpaired ss b → ⊥) → now ≡ css
    → (k : ℕ) → AreClassesBelow p K ss wanted (b + 1) k (in_degree now k)
no_class_more p K ss wanted b css now x none e k = subst (λ (l : List (List ClassOf)). AreClassesBelow p K ss wanted (b + 1) k (in_degree l k)) (sym e) (stays p K ss wanted b k (in_degree css k) (x k) (λ s u. none u))
