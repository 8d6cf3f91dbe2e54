-- Chains by the numbers of the cells and by the cells themselves: the two readings match
use Rattle.std.proofs.Common.{◌≡◌, ℕ, ◌+◌, ◌<◌, ◌≤◌, refl, sym, ap, ◌∙◌, arith, ⊎_elim, List, [], ◌∷◌, length, get_or, Bool, true, false, cond, ltb, eqb, eq-eqb, ne_eqb}
use Rattle.std.proofs.lemmas.Bool.{cases_lt, cases_eq, ltb-true, ltb-false, lt-ltb, le-ltb, both_ways}
use Rattle.std.proofs.lemmas.List.{get_or-map}
use Rattle.std.proofs.lemmas.List.Sums.{passes_at_first}
use Rattle.field_mod.proofs.Modular.{same_sym}
use Rattle.elem_cubes.specs.Cells.{Factor, dimension_of, same_cell}
use Rattle.elem_cubes.specs.Laws.{cell_at}
use Rattle.chains.specs.Terms.{coefficient}
use Rattle.chains.specs.Homology.{System}
use Rattle.chains.specs.ChainComplex.{ChainComplex, system}
use Rattle.cell_complex.specs.RelativeComplex.{is_relative, relative_complex}
use Rattle.cell_complex.specs.Numbering.{IsRelativeComplex, number_of, by_cell, by_number, cell_coefficient, cell_terms}
use Rattle.cell_complex.specs.Laws.{BasesAreByNumberOrCell}
use Rattle.elem_cubes.specs.OrderLemmas.{cell_refl, cell_cases}
use Rattle.elem_cubes.proofs.Modular.{exact}
use Rattle.cell_complex.proofs.Deciding.{cell_true}
use Rattle.cell_complex.proofs.Matching.{Matching, IsMatch, turned, chain_matches, cycle_matches, null_matches, basis_matches, at_back}
use Rattle.cell_complex.proofs.Numbering.{listed, number_at, number_within, at_number, boundary_by_cell}

module _ (p : ℕ) (x a cells : List (List Factor)) (K : ChainComplex) (R : IsRelativeComplex p x a cells K) where
  -- a generator is the number of a cell
  pub within : (g : ℕ) → ltb g (length K.boundaries) ≡ true → g < length cells
  within g e = omega (arith, ltb-true g (length K.boundaries) e, R.complex.count)

  pub inside : (g : ℕ) → g < length cells → ltb g (length K.boundaries) ≡ true
  inside g l = lt-ltb g (length K.boundaries) (omega (arith, l, R.complex.count))

  beyond : (g : ℕ) → ltb g (length K.boundaries) ≡ false → length cells ≤ g
  beyond g e = omega (arith, ltb-false g (length K.boundaries) e, R.complex.count)

  abbrev pub matching : Matching p (system K) (relative_complex p x a)
  matching = record {
    there = cell_at cells;
    back = number_of cells;
    there_on = λ g e. listed (is_relative x a) cells R.listing g (within g e);
    back_on = λ q e. inside (number_of cells q) (number_within (is_relative x a) cells R.listing q e);
    back_there = λ g e. number_at (is_relative x a) cells R.listing g (within g e);
    there_back = λ q e. at_number (is_relative x a) cells R.listing q e;
    degree = λ g e. sym (ap (λ ds. get_or ds g 0) R.complex.degrees ∙ get_or-map dimension_of cells g [] 0 (within g e));
    boundary = λ c d m g e. boundary_by_cell p x a cells K R c d (λ i l. m i (inside i l)) g;
  }

  abbrev pub back_matching : Matching p (relative_complex p x a) (system K)
  back_matching = turned p (system K) (relative_complex p x a) matching

  -- a cell with a number in range is there
  numbered : (q : List Factor) → number_of cells q < length cells → is_relative x a q ≡ true
  numbered q l =
      let e : q ≡ cell_at cells (number_of cells q) = cell_true q (cell_at cells (number_of cells q)) (passes_at_first (same_cell q) cells [] l) in
      ap (is_relative x a) e ∙ listed (is_relative x a) cells R.listing (number_of cells q) l

  pub by_cell_matches : (c : ℕ → ℕ) → IsMatch p (system K) (relative_complex p x a) matching c (by_cell cells c)
  by_cell_matches c = record {
    on = λ g e.
        let n : number_of cells (cell_at cells g) ≡ g = number_at (is_relative x a) cells R.listing g (within g e) in
        exact p (sym (ap (λ m. cond (ltb m (length cells)) (c m) 0) n ∙ ap (λ b. cond b (c g) 0) (lt-ltb g (length cells) (within g e))));
    off = λ q e. ⊎_elim
        (λ l. absurd (both_ways (is_relative x a q) e (numbered q l)))
        (λ l. exact p (ap (λ b. cond b (c (number_of cells q)) 0) (le-ltb (number_of cells q) (length cells) l)))
        (cases_lt (number_of cells q) (length cells));
  }

  pub by_number_matches : (c : List Factor → ℕ) → IsMatch p (relative_complex p x a) (system K) back_matching c (by_number cells c)
  by_number_matches c = record {
    on = λ q e.
        let l = number_within (is_relative x a) cells R.listing q e in
        exact p (sym (ap (λ b. cond b (c (cell_at cells (number_of cells q))) 0) (lt-ltb (number_of cells q) (length cells) l) ∙ ap c (at_number (is_relative x a) cells R.listing q e)));
    off = λ g e. exact p (ap (λ b. cond b (c (cell_at cells g)) 0) (le-ltb g (length cells) (beyond g e)));
  }

  -- ---- lists of terms

  one_term : (t : ℕ × ℕ) (g : ℕ) → g < length cells → (length cells ≤ t.0 → t.1 ≡ 0) → cond (eqb t.0 g) t.1 0 ≡ cond (same_cell (cell_at cells t.0) (cell_at cells g)) t.1 0
  one_term t g l none = ⊎_elim
      (λ e. ap (λ b. cond b t.1 0) (eq-eqb t.0 g e ∙ sym (ap (λ k. same_cell (cell_at cells k) (cell_at cells g)) e ∙ cell_refl (cell_at cells g))))
      (λ n. ⊎_elim
      (λ m. ap (λ b. cond b t.1 0) (ne_eqb t.0 g n ∙ sym (⊎_elim (λ e. absurd (n (R.listing.once t.0 g m l e))) (λ f. f) (cell_cases (cell_at cells t.0) (cell_at cells g)))))
      (λ m. ap (λ v. cond (eqb t.0 g) v 0) (none m) ∙ zeros (eqb t.0 g) (same_cell (cell_at cells t.0) (cell_at cells g)) ∙ sym (ap (λ v. cond (same_cell (cell_at cells t.0) (cell_at cells g)) v 0) (none m)))
      (cases_lt t.0 (length cells)))
      (cases_eq t.0 g)
    where
      zeros : (u v : Bool) → ◌≡◌ {A = ℕ} (cond u 0 0) (cond v 0 0)
      zeros true true = refl
      zeros true false = refl
      zeros false true = refl
      zeros false false = refl

  term_off : (t : ℕ × ℕ) (q : List Factor) → is_relative x a q ≡ false → (length cells ≤ t.0 → t.1 ≡ 0) → cond (same_cell (cell_at cells t.0) q) t.1 0 ≡ 0
  term_off t q off none = ⊎_elim
      (λ m. ap (λ b. cond b t.1 0) (⊎_elim (λ e. absurd (both_ways (is_relative x a q) off (sym (ap (is_relative x a) e) ∙ listed (is_relative x a) cells R.listing t.0 m))) (λ f. f) (cell_cases (cell_at cells t.0) q)))
      (λ m. ap (λ v. cond (same_cell (cell_at cells t.0) q) v 0) (none m) ∙ zero_either (same_cell (cell_at cells t.0) q))
      (cases_lt t.0 (length cells))
    where
      zero_either : (u : Bool) → ◌≡◌ {A = ℕ} (cond u 0 0) 0
      zero_either true = refl
      zero_either false = refl

  first_zero : (t : ℕ × ℕ) (ts : List (ℕ × ℕ)) → coefficient (t ∷ ts) t.0 ≡ 0 → t.1 ≡ 0
  first_zero t ts e = let f = ap (λ b. cond b t.1 0 + coefficient ts t.0) (eq-eqb t.0 t.0 refl) in omega (arith, e, f)

  rest_zero : (t : ℕ × ℕ) (ts : List (ℕ × ℕ)) (g : ℕ) → coefficient (t ∷ ts) g ≡ 0 → coefficient ts g ≡ 0
  rest_zero t ts g e = omega (arith, e)

  terms_on : (ts : List (ℕ × ℕ)) → ((g : ℕ) → length cells ≤ g → coefficient ts g ≡ 0) → (g : ℕ) → g < length cells → coefficient ts g ≡ cell_coefficient (cell_terms cells ts) (cell_at cells g)
  terms_on [] none g l = refl
  terms_on (t ∷ ts) none g l =
      let one = one_term t g l (λ m. first_zero t ts (none t.0 m)) in
      let rest = terms_on ts (λ h m. rest_zero t ts h (none h m)) g l in
      ap (λ v. v + coefficient ts g) one ∙ ap (λ v. cond (same_cell (cell_at cells t.0) (cell_at cells g)) t.1 0 + v) rest

  terms_off : (ts : List (ℕ × ℕ)) → ((g : ℕ) → length cells ≤ g → coefficient ts g ≡ 0) → (q : List Factor) → is_relative x a q ≡ false → cell_coefficient (cell_terms cells ts) q ≡ 0
  terms_off [] none q off = refl
  terms_off (t ∷ ts) none q off =
      let one = term_off t q off (λ m. first_zero t ts (none t.0 m)) in
      let rest = terms_off ts (λ h m. rest_zero t ts h (none h m)) q off in
      ap (λ v. v + cell_coefficient (cell_terms cells ts) q) one ∙ ap (λ v. 0 + v) rest

  terms_match : (ts : List (ℕ × ℕ)) → ((g : ℕ) → length cells ≤ g → coefficient ts g ≡ 0) → IsMatch p (system K) (relative_complex p x a) matching (coefficient ts) (cell_coefficient (cell_terms cells ts))
  terms_match ts none = record {
    on = λ g e. exact p (terms_on ts none g (within g e));
    off = λ q e. exact p (terms_off ts none q e);
  }

  terms_match_back : (ts : List (ℕ × ℕ)) → ((g : ℕ) → length cells ≤ g → coefficient ts g ≡ 0) → IsMatch p (relative_complex p x a) (system K) back_matching (cell_coefficient (cell_terms cells ts)) (coefficient ts)
  terms_match_back ts none = record {
    on = λ q e. same_sym (at_back p (system K) (relative_complex p x a) matching (coefficient ts) (cell_coefficient (cell_terms cells ts)) (terms_match ts none) q e);
    off = λ g e. exact p (none g (beyond g e));
  }

pub bases_are_by_number_or_cell : BasesAreByNumberOrCell
bases_are_by_number_or_cell p x a cells K h R =
    let N : System ℕ = system K in
    let C : System (List Factor) = relative_complex p x a in
    let M : Matching p N C = matching p x a cells K R in
    let T : Matching p C N = back_matching p x a cells K R in
    let to = by_cell_matches p x a cells K R in
    let back = by_number_matches p x a cells K R in
    record {
      chain_by_cell = λ k c. chain_matches p N C M k c (by_cell cells c) (to c);
      chain_by_number = λ k c. chain_matches p C N T k c (by_number cells c) (back c);
      cycle_by_cell = λ k c. cycle_matches p N C M k c (by_cell cells c) (to c);
      cycle_by_number = λ k c. cycle_matches p C N T k c (by_number cells c) (back c);
      null_by_cell = λ k c. null_matches p N C M k c (by_cell cells c) (to c).on;
      null_by_number = λ k c. null_matches p C N T k c (by_number cells c) (back c).on;
      basis_by_cell = λ k n zs. basis_matches p N C M k n zs (λ i. by_cell cells (zs i)) (λ i l. to (zs i));
      basis_by_number = λ k n zs. basis_matches p C N T k n zs (λ i. by_number cells (zs i)) (λ i l. back (zs i));
      basis_of_terms = λ k zs none. (
        basis_matches p N C M k (length zs) (λ i. coefficient (get_or zs i [])) (λ i. cell_coefficient (cell_terms cells (get_or zs i []))) (λ i l. terms_match p x a cells K R (get_or zs i []) (λ g m. none i g l m)),
        basis_matches p C N T k (length zs) (λ i. cell_coefficient (cell_terms cells (get_or zs i []))) (λ i. coefficient (get_or zs i [])) (λ i l. terms_match_back p x a cells K R (get_or zs i []) (λ g m. none i g l m)),
      );
    }
