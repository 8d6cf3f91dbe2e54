-- A section of the form is the lines of a pair: the lists by degree of what it has fit, and have these lines.
use Rattle.std.proofs.Common.{◌≡◌, ℕ, zero, suc, ◌+◌, ◌<◌, ◌≤◌, refl, sym, ap, ◌∙◌, arith, ⊎_elim, List, [], ◌∷◌, ◌++◌, length, map, subst}
use Rattle.std.proofs.lemmas.List.{length-map}
use Rattle.std.proofs.lemmas.Bool.{cases_lt}
use Rattle.elem_cubes.specs.Cells.{Factor}
use Rattle.homology_basis.specs.Bases.{in_degree}
use Rattle.witness_laws.specs.Inputs.{relative_cells}
use Rattle.witness_laws.specs.Parts.{AreTerms, nth}
use Rattle.witness_laws.specs.Tables.{PairTables, IsPairTables}
use Rattle.witness_laws.proofs.Runs.{length_singles}
use Rattle.witness_types.specs.Parts.{beside, by_degree}
use Rattle.witness_runs.specs.Cycles.{AreCycles}
use Rattle.section_reading.specs.Section.{degrees_of}
use Rattle.witness_reading.proofs.Flat.{flat_from, flat_beside, zipped}
use Rattle.witness_reading.proofs.Degrees.{each_at, each_past, beside_length, beside_terms, cycles_rise, cycles_zipped}

-- lists by degree, degree by degree
in_some : {A : Type 0} (top k : ℕ) (ds : List ℕ) (xs : List A) → k < suc top → in_degree (by_degree top ds xs) k ≡ beside k ds xs
in_some top k ds xs l = each_at (suc top) (λ i. beside i ds xs) k [] l

in_none : {A : Type 0} (top k : ℕ) (ds : List ℕ) (xs : List A) → suc top ≤ k → in_degree (by_degree top ds xs) k ≡ []
in_none top k ds xs l = each_past (suc top) (λ i. beside i ds xs) k [] l

flat_upto : {A : Type 0} (low n : ℕ) (f g : ℕ → List A) → ((k : ℕ) → k < low + n → f k ≡ g k) → flat_from low n f ≡ flat_from low n g
flat_upto low zero f g h = refl
flat_upto {A} low (suc n) f g h =
    ap (λ (l : List A). map (λ x. (low, x)) l ++ flat_from (suc low) n f) (h low (omega arith))
    ∙ ap (λ l. map (λ x. (low, x)) (g low) ++ l) (flat_upto (suc low) n f g (λ k l. h k (omega arith)))

-- laid flat they are the lists again
pub flat_by_degree : {A : Type 0} (p top : ℕ) (cs : List (ℕ × List (ℕ × ℕ))) (xs : List A) → AreCycles p 0 top cs → length xs ≡ length cs
    → flat_from 0 (suc top) (in_degree (by_degree top (degrees_of cs) xs)) ≡ zipped (degrees_of cs) xs
flat_by_degree p top cs xs a e =
    let ds : List ℕ = degrees_of cs in
    let n : length ds ≡ length cs = length-map cs (λ (c : ℕ × List (ℕ × ℕ)). c.0) in
    flat_upto 0 (suc top) (in_degree (by_degree top ds xs)) (λ k. beside k ds xs) (λ k l. in_some top k ds xs (omega arith))
    ∙ flat_beside 0 (suc top) top ds xs (cycles_rise p 0 top cs a).1 (omega arith) (omega arith)

-- the parts of a section as tables
abbrev pub tables_by : ℕ → List (ℕ × List (ℕ × ℕ)) → List (List (ℕ × ℕ)) → List (List (ℕ × ℕ)) → PairTables
tables_by top cs cocycles homotopies = record {
  cycles = by_degree top (degrees_of cs) (map (λ (c : ℕ × List (ℕ × ℕ)). c.1) cs);
  cocycles = by_degree top (degrees_of cs) cocycles;
  homotopies = homotopies;
}

cycle_terms : (p low high : ℕ) (cs : List (ℕ × List (ℕ × ℕ))) → AreCycles p low high cs → (i : ℕ) → i < length (map (λ (c : ℕ × List (ℕ × ℕ)). c.1) cs)
    → AreTerms p 0 (nth (map (λ (c : ℕ × List (ℕ × ℕ)). c.1) cs) i)
cycle_terms p low high [] a i l = absurd (omega arith)
cycle_terms p low high (c ∷ cs) a zero l = a.1
cycle_terms p low high (c ∷ cs) a (suc i) l = cycle_terms p c.0 high cs a.2 i (omega arith)

module _ (p top : ℕ) (x a : List (List Factor)) (cs : List (ℕ × List (ℕ × ℕ))) (cocycles homotopies : List (List (ℕ × ℕ))) (are : AreCycles p 0 top cs)
    (beside_them : length cocycles ≡ length cs) (cocycle_terms : (i : ℕ) → i < length cocycles → AreTerms p 0 (nth cocycles i))
    (cells : length homotopies ≡ length (relative_cells x a)) (homotopy_terms : (i : ℕ) → i < length homotopies → AreTerms p 0 (nth homotopies i)) where
  abbrev chains : List (List (ℕ × ℕ))
  chains = map (λ (c : ℕ × List (ℕ × ℕ)). c.1) cs

  abbrev ds : List ℕ
  ds = degrees_of cs

  size : (k : ℕ) → length (in_degree (by_degree top ds cocycles) k) ≡ length (in_degree (by_degree top ds chains) k)
  size k = ⊎_elim
      (λ l. ap length (in_some top k ds cocycles l) ∙ beside_length k ds cocycles chains (beside_them ∙ sym (length-map cs (λ (c : ℕ × List (ℕ × ℕ)). c.1)))
      ∙ sym (ap length (in_some top k ds chains l)))
      (λ l. ap length (in_none top k ds cocycles (omega arith)) ∙ sym (ap length (in_none top k ds chains (omega arith))))
      (cases_lt k (suc top))

  terms_in : (xs : List (List (ℕ × ℕ))) → ((i : ℕ) → i < length xs → AreTerms p 0 (nth xs i)) → (k i : ℕ) → i < length (in_degree (by_degree top ds xs) k)
      → AreTerms p 0 (nth (in_degree (by_degree top ds xs) k) i)
  terms_in xs h k i l = ⊎_elim
      (λ q. let e = in_some top k ds xs q in
      subst (λ (c : List (List (ℕ × ℕ))). AreTerms p 0 (nth c i)) (sym e) (beside_terms p k ds xs h i (subst (λ (c : List (List (ℕ × ℕ))). i < length c) e l)))
      (λ q. let z : length (in_degree (by_degree top ds xs) k) ≡ 0 = ap length (in_none top k ds xs (omega arith)) in absurd (omega arith))
      (cases_lt k (suc top))

  -- they fit
  pub tables_fit : IsPairTables p top x a (tables_by top cs cocycles homotopies)
  tables_fit = record {
    degrees = length_singles (suc top) (λ k. beside k ds chains) ∙ (let q : suc top ≡ top + 1 = omega arith in q);
    cocycle_degrees = length_singles (suc top) (λ k. beside k ds cocycles) ∙ (let q : suc top ≡ top + 1 = omega arith in q);
    sizes = size;
    cells = cells;
    cycles = λ k i l. terms_in chains (cycle_terms p 0 top cs are) k i l;
    cocycles = λ k i l. terms_in cocycles cocycle_terms k i (let e = size k in omega arith);
    homotopies = homotopy_terms;
  }

  -- and their cycles, laid flat, are these
  pub flat_is : flat_from 0 (suc top) (in_degree (by_degree top ds chains)) ≡ cs
  flat_is = flat_by_degree p top cs chains are (length-map cs (λ (c : ℕ × List (ℕ × ℕ)). c.1)) ∙ cycles_zipped cs

  pub flat_cocycles_are : flat_from 0 (suc top) (in_degree (by_degree top ds cocycles)) ≡ zipped ds cocycles
  flat_cocycles_are = flat_by_degree p top cs cocycles are beside_them
