-- The complex of a chain file against what the file says.
use Rattle.std.proofs.Common.{◌≡◌, ◌≢◌, ◌≤◌, ◌<◌, ℕ, ◌*◌, ◌/◌, ◌%◌, List, [], length, get_or, refl, sym, ap, ◌∙◌, arith, ⊎_elim, subst}
use Rattle.std.proofs.Math.ListN.{get_or-map}
use Rattle.std.proofs.lemmas.List.{get_or_past, length-map}
use Rattle.std.proofs.lemmas.Bool.{cases_lt, cases_eq}
use native.Mathlib.Nat.{mul-zero}
use Rattle.field_mod.specs.Sums.{total}
use Rattle.field_mod.specs.Modular.{Same}
use Rattle.field_mod.proofs.Sums.{total_same, total-same, total-zero}
use Rattle.field_mod.proofs.Modular.{same_by, same_refl, same_sym, same_trans, same-mul}
use Rattle.chains.specs.Terms.{coefficient}
use Rattle.chains.specs.ChainComplex.{ChainComplex, incidence, boundary, IsBadDegree, IsNotZero, IsFirst}
use Rattle.chains.specs.Refusal.{IsRefusal}
use Rattle.chains.specs.declared.complex.ComplexFault.{ComplexFault}
use Rattle.chains.specs.declared.complex.ComplexFault.TheVariants as complexes
use Rattle.chain_files.specs.Content.{Boundary, not_given, Content, terms_of}
use Rattle.chain_files.specs.Complexes.{IsFileComplex}
use Rattle.chain_files.specs.Making.{AreChains, IsGraded, IsWithin, in_words, IsComplexFault}
use Rattle.chain_files.proofs.Deciding.{zero_mod}

pub terms_at : (bs : List Boundary) (h : ℕ) → get_or (terms_of bs) h [] ≡ (get_or bs h not_given).terms
terms_at bs h = get_or-map (λ (b : Boundary). b.terms) bs h not_given

module _ (p : ℕ) (bs : List Boundary) (cs : List (List (ℕ × ℕ))) (chains : AreChains p bs cs) where
  abbrev ts : List (List (ℕ × ℕ))
  ts = terms_of bs

  long : length cs ≡ length ts
  long = chains.long ∙ sym (length-map bs (λ (b : Boundary). b.terms))

  pub incidence_is : (h g : ℕ) → h < length bs → incidence cs h g ≡ incidence ts h g % p
  incidence_is h g lt = chains.each h g lt ∙ ap (λ t. coefficient t g % p) (sym (terms_at bs h))

  incidence_past : (xs : List (List (ℕ × ℕ))) (h g : ℕ) → length xs ≤ h → incidence xs h g ≡ 0
  incidence_past xs h g le = ap (λ t. coefficient t g) (get_or_past xs h [] le)

  reduced : (a b : ℕ) → a ≡ b % p → Same p a b
  reduced a b e = same_by p (b / p) 0 a b (omega (arith, e))

  same_incidence : (h g : ℕ) → Same p (incidence cs h g) (incidence ts h g)
  same_incidence h g = ⊎_elim
      (λ lt. reduced _ _ (incidence_is h g lt))
      (λ le. rw (incidence_past cs h g (omega (arith, chains.long)), incidence_past ts h g (omega (arith, chains.long, long))) (same_refl p 0))
      (cases_lt h (length bs))

  same_boundary : (h g : ℕ) → Same p (boundary cs (incidence cs h) g) (boundary ts (incidence ts h) g)
  same_boundary h g =
      let s : Same p (total (length ts) (λ k. incidence cs h k * incidence cs k g)) (boundary ts (incidence ts h) g) =
      total_same p (length ts) (λ k. incidence cs h k * incidence cs k g) (λ k. incidence ts h k * incidence ts k g)
      (λ k lt. same-mul (same_incidence h k) (same_incidence k g)) in
      rw long s

  not_zero : (h g : ℕ) → IsNotZero p cs h g → IsNotZero p ts h g
  not_zero h g n = record { generator = omega (arith, n.generator, long); nonzero = λ z. n.nonzero (same_trans (same_boundary h g) z) }

  not_zero' : (h g : ℕ) → IsNotZero p ts h g → IsNotZero p cs h g
  not_zero' h g n = record { generator = omega (arith, n.generator, long); nonzero = λ z. n.nonzero (same_trans (same_sym (same_boundary h g)) z) }

  first : (h g : ℕ) → IsFirst (IsNotZero p cs) h g → IsFirst (IsNotZero p ts) h g
  first h g f = record {
    here = not_zero h g f.here;
    before = λ j lt k n. f.before j lt k (not_zero' j k n);
    beside = λ k n. f.beside k (not_zero' h k n);
  }

  named : (h g : ℕ) → h < length bs → incidence cs h g ≢ 0 → incidence ts h g ≢ 0
  named h g lt n z = n (incidence_is h g lt ∙ ap (λ v. v % p) z ∙ zero_mod p)

  bad : (degrees : List ℕ) (h g : ℕ) → IsBadDegree degrees cs h g → IsBadDegree degrees ts h g
  bad degrees h g b = record {
    generator = omega (arith, b.generator, long);
    misplaced = record { named = named h g (omega (arith, b.generator, chains.long)) b.misplaced.named; degree = b.misplaced.degree };
  }

  -- where no boundary names g, the boundary of a boundary is 0 there
  none_names : (degrees : List ℕ) (h g : ℕ) → ((j k : ℕ) → ¬ IsBadDegree degrees cs j k) → length degrees ≤ g → boundary cs (incidence cs h) g ≡ 0
  none_names degrees h g good le =
      total-same (length cs) (λ k. incidence cs h k * incidence cs k g) (λ k. 0)
      (λ k lt. ⊎_elim
      (λ z. ap (λ v. incidence cs h k * v) z ∙ mul-zero (incidence cs h k))
      (λ n. absurd (good k g (record { generator = lt; misplaced = record { named = n; degree = λ d. omega (arith, d.0, le) } })))
      (cases_eq (incidence cs k g) 0))
      ∙ total-zero (length cs)

  inside : (degrees : List ℕ) (h g : ℕ) → ((j k : ℕ) → ¬ IsBadDegree degrees cs j k) → IsNotZero p cs h g → g < length degrees
  inside degrees h g good n = ⊎_elim
      (λ lt. lt)
      (λ le. absurd (n.nonzero (rw (none_names degrees h g good le) (same_refl p 0))))
      (cases_lt g (length degrees))

  pub within : (degrees : List ℕ) (fault : ComplexFault) → length degrees ≡ length bs → ((j k : ℕ) → ¬ IsBadDegree degrees ts j k) → IsRefusal p degrees cs fault → IsWithin (length degrees) fault
  within degrees (complexes.NotZero h g value) l good r = (omega (arith, r.1.here.generator, chains.long, l), inside degrees h g r.0 r.1.here)
  within degrees (complexes.BadDegree h g) l good r = good h g (bad degrees h g r.here)
  within degrees complexes.NoMemory l good r = tt

  value_is : (h g value : ℕ) → value ≡ boundary cs (incidence cs h) g % p → value ≡ boundary ts (incidence ts h) g % p
  value_is h g value e = e ∙ (same_boundary h g).same

fault_is : (p : ℕ) (content : Content) (cs : List (List (ℕ × ℕ))) (fault : ComplexFault) → AreChains p content.boundaries cs
    → IsGraded content → IsRefusal p content.degrees cs fault → IsComplexFault p content (in_words content.degrees fault)
fault_is p content cs (complexes.NotZero h g value) chains good r = record {
  h = h;
  g = g;
  first = first p content.boundaries cs chains h g r.1;
  degree_is = refl;
  generator_is = refl;
  at_is = refl;
  value_is = value_is p content.boundaries cs chains h g value r.2;
}
fault_is p content cs (complexes.BadDegree h g) chains good r = tt
fault_is p content cs complexes.NoMemory chains good r = tt

-- as the code makes it: what is read goes through lists that are equal

module _ (p : ℕ) (content : Content) (es : List Boundary) (ds kept : List ℕ) (cs : List (List (ℕ × ℕ))) (chains : AreChains p es cs)
    (e : es ≡ content.boundaries) (d : ds ≡ content.degrees) (k : kept ≡ ds) where
  made_chains : AreChains p content.boundaries cs
  made_chains = subst (λ (l : List Boundary). AreChains p l cs) e chains

  pub made_within : (fault : ComplexFault) → length content.degrees ≡ length content.boundaries → IsGraded content → IsRefusal p ds cs fault → IsWithin (length kept) fault
  made_within fault l good r =
      let r' : IsRefusal p content.degrees cs fault = subst (λ (l : List ℕ). IsRefusal p l cs fault) d r in
      rw (k ∙ d) (within p content.boundaries cs made_chains content.degrees fault l good r')

  pub made_fault : (fault : ComplexFault) → IsGraded content → IsRefusal p ds cs fault → IsComplexFault p content (in_words kept fault)
  made_fault fault good r =
      let r' : IsRefusal p content.degrees cs fault = subst (λ (l : List ℕ). IsRefusal p l cs fault) d r in
      rw (k ∙ d) (fault_is p content cs fault made_chains good r')

  pub made_file : (top : ℕ) (K : ChainComplex) → top ≡ content.top → K.degrees ≡ ds → K.boundaries ≡ cs → IsFileComplex p content (record { top = top; complex = K })
  made_file top K t f g = record {
    top = t;
    degrees = f ∙ d;
    sizes = ap length g ∙ made_chains.long;
    incidences = λ h n lt. ap (λ l. incidence l h n) g ∙ incidence_is p content.boundaries cs made_chains h n lt;
  }
