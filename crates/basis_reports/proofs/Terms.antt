-- Cycles as they are printed are the numbered ones, as chains of cells.
use Rattle.std.proofs.Common.{◌≡◌, ℕ, ◌+◌, ◌<◌, ◌≤◌, ⊎_elim, refl, sym, ap, ◌∙◌, arith, List, [], ◌∷◌, length, Bool, true, false, cond, eq-eqb, ne_eqb}
use Rattle.std.specs.Prelude.{◌==◌}
use Rattle.std.proofs.lemmas.Bool.{true≢false, cases_lt, cases_eq, cases_Bool, lt-ltb, le-ltb}
use Rattle.elem_cubes.specs.Cells.{Factor, same_cell}
use Rattle.elem_cubes.specs.OrderLemmas.{cell_cases, cell_refl}
use Rattle.elem_cubes.specs.Laws.{cell_at}
use Rattle.chains.specs.Terms.{coefficient}
use Rattle.cell_complex.specs.Numbering.{IsListing, number_of, by_cell, cell_coefficient, cell_terms}
use Rattle.cell_complex.proofs.Numbering.{listed, number_at, number_within, at_number}
use Rattle.excision.proofs.Placing.{number_missing}

module _ (test : List Factor → Bool) (cells : List (List Factor)) (l : IsListing test cells) where
  -- no coefficient stands past the cells
  abbrev pub IsInside : List (ℕ × ℕ) → Type 0
  IsInside ts = (g : ℕ) → length cells ≤ g → coefficient ts g ≡ 0

  first_zero : (t : ℕ × ℕ) (ts : List (ℕ × ℕ)) → IsInside (t ∷ ts) → length cells ≤ t.0 → t.1 ≡ 0
  first_zero t ts none m =
      let e = none t.0 m in
      let f = ap (λ b. cond b t.1 0 + coefficient ts t.0) (eq-eqb t.0 t.0 refl) in
      omega (arith, e, f)

  rest_inside : (t : ℕ × ℕ) (ts : List (ℕ × ℕ)) → IsInside (t ∷ ts) → IsInside ts
  rest_inside t ts none g m = let e = none g m in omega (arith, e)

  -- a term at another cell counts nothing
  other_cell : (t : ℕ × ℕ) (q : List Factor) → (length cells ≤ t.0 → t.1 ≡ 0) → (t.0 < length cells → cell_at cells t.0 ≡ q → ⊥) → cond (same_cell (cell_at cells t.0) q) t.1 0 ≡ 0
  other_cell t q past other = ⊎_elim
      (λ e. ⊎_elim
      (λ inside. absurd (other inside e))
      (λ m. either (same_cell (cell_at cells t.0) q) (past m))
      (cases_lt t.0 (length cells)))
      (λ f. ap (λ b. cond b t.1 0) f)
      (cell_cases (cell_at cells t.0) q)
    where
      either : (b : Bool) → t.1 ≡ 0 → cond b t.1 0 ≡ 0
      either true z = z
      either false z = refl

  -- at a cell of the list
  module _ (q : List Factor) (on : test q ≡ true) where
    term_there : (t : ℕ × ℕ) → (length cells ≤ t.0 → t.1 ≡ 0) → cond (same_cell (cell_at cells t.0) q) t.1 0 ≡ cond (t.0 == number_of cells q) t.1 0
    term_there t past = ⊎_elim
        (λ e. ap (λ b. cond b t.1 0) (ap (λ r. same_cell r q) (ap (cell_at cells) e ∙ at_number test cells l q on) ∙ cell_refl q) ∙ sym (ap (λ b. cond b t.1 0) (eq-eqb t.0 (number_of cells q) e)))
        (λ f. other_cell t q past (λ inside e. f (sym (number_at test cells l t.0 inside) ∙ ap (number_of cells) e)) ∙ sym (ap (λ b. cond b t.1 0) (ne_eqb t.0 (number_of cells q) f)))
        (cases_eq t.0 (number_of cells q))

    terms_there : (ts : List (ℕ × ℕ)) → IsInside ts → cell_coefficient (cell_terms cells ts) q ≡ coefficient ts (number_of cells q)
    terms_there [] none = refl
    terms_there (t ∷ ts) none =
        ap (λ v. v + cell_coefficient (cell_terms cells ts) q) (term_there t (first_zero t ts none))
        ∙ ap (λ v. cond (t.0 == number_of cells q) t.1 0 + v) (terms_there ts (rest_inside t ts none))

  terms_away : (q : List Factor) → test q ≡ false → (ts : List (ℕ × ℕ)) → IsInside ts → cell_coefficient (cell_terms cells ts) q ≡ 0
  terms_away q off [] none = refl
  terms_away q off (t ∷ ts) none =
      ap (λ v. v + cell_coefficient (cell_terms cells ts) q) (other_cell t q (first_zero t ts none) (λ inside e. true≢false (sym (listed test cells l t.0 inside) ∙ ap test e ∙ off)))
      ∙ ap (λ v. 0 + v) (terms_away q off ts (rest_inside t ts none))

  pub terms_by_cell : (ts : List (ℕ × ℕ)) → IsInside ts → (q : List Factor) → cell_coefficient (cell_terms cells ts) q ≡ by_cell cells (coefficient ts) q
  terms_by_cell ts none q = ⊎_elim
      (λ on. terms_there q on ts none ∙ sym (ap (λ b. cond b (coefficient ts (number_of cells q)) 0) (lt-ltb (number_of cells q) (length cells) (number_within test cells l q on))))
      (λ off. terms_away q off ts none ∙ sym (ap (λ b. cond b (coefficient ts (number_of cells q)) 0) (le-ltb (number_of cells q) (length cells) (omega (arith, missing off)))))
      (cases_Bool (test q))
    where
      missing : test q ≡ false → number_of cells q ≡ length cells
      missing off = number_missing cells q (λ w. true≢false (sym ((l.members q).1 w) ∙ off))
