-- The section that is read of a part.
use Rattle.std.proofs.Common.{◌≡◌, ℕ, zero, suc, ◌+◌, ◌%◌, ◌<◌, ◌≤◌, refl, sym, ap, ◌∙◌, subst, arith, ⊎_elim, List, [], ◌∷◌, ◌++◌, length, get_or, map}
use Rattle.std.proofs.lemmas.Bool.{cases_lt}
use Rattle.std.proofs.lemmas.List.{get_or_append_left, length-append}
use Rattle.std.proofs.Math.Seq.{get_or-append_seam}
use native.Mathlib.Nat.{mod-mod}
use Rattle.field_mod.specs.Modular.{Same}
use Rattle.field_mod.proofs.Modular.{same_sym, same_trans}
use Rattle.elem_cubes.specs.Cells.{Factor}
use Rattle.chains.specs.ChainComplex.{ChainComplex}
use Rattle.cell_complex.specs.Numbering.{IsComplexOf}
use Rattle.homology_basis.specs.Bases.{in_degree}
use Rattle.chain_lists.specs.Lists.{IsTranspose}
use Rattle.witness_laws.specs.declared.law.Law.{Law}
use Rattle.std.specs.Prelude.{Option}
use Rattle.witness_laws.specs.Lines.{each}
use Rattle.witness_laws.specs.Inputs.{all_cells, relative_cells}
use Rattle.witness_laws.proofs.Naming.{relative_listing}
use Rattle.witness_types.specs.declared.part.PairPart.{PairPart}
use Rattle.witness_types.specs.Parts.{beside, degrees_of, pair_tables}
use Rattle.witness_sections.specs.declared.section.Degree.{Degree}
use Rattle.witness_sections.specs.declared.section.Section.{Section}
use Rattle.witness_sections.specs.Readings.{AreRead, IsDegreeOf, AreDegreesOf, IsSectionOf, IsCocycleOutcome}

pub transposed_as : (p n m : ℕ) (cs ds rows : List (List (ℕ × ℕ))) → n ≡ m → cs ≡ ds → IsTranspose p n cs rows → IsTranspose p m ds rows
transposed_as p n m cs ds rows e f t = subst (λ (k : ℕ). IsTranspose p k ds rows) e (subst (λ (xs : List (List (ℕ × ℕ))). IsTranspose p n xs rows) f t)

pub outcome_as : (p : ℕ) (b c a d : List (List (ℕ × ℕ))) (u : List (ℕ × ℕ)) (i : ℕ) (o : Option Law) → b ≡ c → a ≡ d → IsCocycleOutcome p b a u i o → IsCocycleOutcome p c d u i o
outcome_as p b c a d u i o e f h = subst (λ (x : List (List (ℕ × ℕ))). IsCocycleOutcome p x d u i o) e (subst (λ (x : List (List (ℕ × ℕ))). IsCocycleOutcome p b x u i o) f h)

pub complex_as : (p : ℕ) (cells : List (List Factor)) (K L : ChainComplex) → K.degrees ≡ L.degrees → K.boundaries ≡ L.boundaries → IsComplexOf p cells L → IsComplexOf p cells K
complex_as p cells K L e f w = let same : L ≡ K = λ i. record { degrees = sym e i; boundaries = sym f i } in subst (λ (M : ChainComplex). IsComplexOf p cells M) same w

-- what is reduced is the same modulo p
pub reduced : (p n m : ℕ) → n ≡ m % p → Same p n m
reduced p n m e = record { same = ap (λ v. v % p) e ∙ mod-mod m p }

pub same_iff : (p : ℕ) (a b s : ℕ → ℕ) → ((g : ℕ) → Same p (a g) (b g)) → record { to : ((g : ℕ) → Same p (a g) (s g)) → (g : ℕ) → Same p (b g) (s g); from : ((g : ℕ) → Same p (b g) (s g)) → (g : ℕ) → Same p (a g) (s g) }
same_iff p a b s e = record {
  to = λ h g. same_trans (same_sym (e g)) (h g);
  from = λ h g. same_trans (e g) (h g);
}

-- ---- lists by degree

length_each : {A : Type 0} (n : ℕ) (f : ℕ → A) → length (each n (λ k. f k ∷ [])) ≡ n
length_each zero f = refl
length_each (suc n) f = ap suc (length_each n (λ k. f (suc k)))

each_at : {A : Type 0} (n : ℕ) (f : ℕ → A) (k : ℕ) (d : A) → k < n → get_or (each n (λ j. f j ∷ [])) k d ≡ f k
each_at zero f k d l = absurd (omega (arith, l))
each_at (suc n) f zero d l = refl
each_at (suc n) f (suc k) d l = each_at n (λ j. f (suc j)) k d (omega (arith, l))

pub no_degrees : {p : ℕ} (cells to : List (List Factor)) (part : PairPart p) (ds : List (Degree p)) → ds ≡ [] → AreDegreesOf cells to part 0 ds
no_degrees cells to part ds e = record { count = ap length e; each = λ k d l. absurd (omega (arith, l)) }

pub one_degree : {p : ℕ} (cells to : List (List Factor)) (part : PairPart p) (k : ℕ) (ds es : List (Degree p)) (d : Degree p) → es ≡ ds ++ d ∷ []
    → IsDegreeOf cells to (beside k (degrees_of part.cycles.items) (map (λ z. z.1) part.cycles.items)) (beside k (degrees_of part.cycles.items) part.cocycles.items) d
    → AreDegreesOf cells to part k ds → AreDegreesOf cells to part (k + 1) es
one_degree {p} cells to part k ds es d new here so_far = record {
  count = ap length new ∙ length-append ds (d ∷ []) ∙ ap (λ n. n + 1) so_far.count;
  each = λ j e l. ⊎_elim
      (λ below. subst (λ (b : Degree p). IsDegreeOf cells to (beside j (degrees_of part.cycles.items) (map (λ z. z.1) part.cycles.items)) (beside j (degrees_of part.cycles.items) part.cocycles.items) b)
      (sym (ap (λ (xs : List (Degree p)). get_or xs j e) new ∙ get_or_append_left ds (d ∷ []) e j (omega (arith, below, so_far.count)))) (so_far.each j e below))
      (λ above. let q : k ≡ j = omega (arith, above, l) in
      subst (λ (b : Degree p). IsDegreeOf cells to (beside j (degrees_of part.cycles.items) (map (λ z. z.1) part.cycles.items)) (beside j (degrees_of part.cycles.items) part.cocycles.items) b)
      (sym (ap (λ (xs : List (Degree p)). get_or xs j e) new ∙ ap (λ (n : ℕ). get_or (ds ++ d ∷ []) n e) (sym q ∙ sym so_far.count) ∙ get_or-append_seam ds d [] e))
      (subst (λ (n : ℕ). IsDegreeOf cells to (beside n (degrees_of part.cycles.items) (map (λ z. z.1) part.cycles.items)) (beside n (degrees_of part.cycles.items) part.cocycles.items) d) q here))
      (cases_lt j k);
}

pub section_from : {p : ℕ} (x a cells to : List (List Factor)) (part : PairPart p) (top : ℕ) (s : Section p) → cells ≡ all_cells x a → to ≡ relative_cells x a → 2 ≤ p
    → IsComplexOf p to s.complex → length s.coboundaries.items ≡ length to → IsTranspose p (length to) s.complex.boundaries s.coboundaries.items
    → AreDegreesOf cells to part (top + 1) s.degrees.items → length part.homotopy.items ≡ length to → AreRead p cells to part.homotopy.items s.homotopies.items
    → IsSectionOf x a (pair_tables top part) s
section_from {p} x a cells to part top s ec et prime complex co_count co degrees homotopies read = record {
  prime = prime;
  complex = record { listing = relative_listing x a; complex = subst (λ (cs : List (List Factor)). IsComplexOf p cs s.complex) et complex };
  co_count = co_count ∙ ap length et;
  coboundaries = subst (λ (cs : List (List Factor)). IsTranspose p (length cs) s.complex.boundaries s.coboundaries.items) et co;
  count = degrees.count ∙ (let e : top + 1 ≡ suc top = omega arith in e) ∙ sym (length_each (suc top) zs);
  degrees = λ k d l. let inside : k < suc top = let e = length_each (suc top) zs in omega (arith, l, e) in
      subst (λ (us : List (List (ℕ × ℕ))). IsDegreeOf (all_cells x a) (relative_cells x a) us (in_degree (pair_tables top part).cocycles k) (get_or s.degrees.items k d)) (sym (each_at (suc top) zs k [] inside))
      (subst (λ (us : List (List (ℕ × ℕ))). IsDegreeOf (all_cells x a) (relative_cells x a) (zs k) us (get_or s.degrees.items k d)) (sym (each_at (suc top) ws k [] inside))
      (subst (λ (cs : List (List Factor)). IsDegreeOf (all_cells x a) cs (zs k) (ws k) (get_or s.degrees.items k d)) et
      (subst (λ (cs : List (List Factor)). IsDegreeOf cs to (zs k) (ws k) (get_or s.degrees.items k d)) ec (degrees.each k d (omega (arith, inside))))));
  cells = homotopies ∙ ap length et;
  homotopies = subst (λ (cs : List (List Factor)). AreRead p (all_cells x a) cs part.homotopy.items s.homotopies.items) et (subst (λ (cs : List (List Factor)). AreRead p cs to part.homotopy.items s.homotopies.items) ec read);
}
  where
    zs : ℕ → List (List (ℕ × ℕ))
    zs k = beside k (degrees_of part.cycles.items) (map (λ z. z.1) part.cycles.items)

    ws : ℕ → List (List (ℕ × ℕ))
    ws k = beside k (degrees_of part.cycles.items) part.cocycles.items
