-- The numbered relative complex: it is a chain complex, and its generators match the cells
use Rattle.std.proofs.Common.{◌≡◌, ◌≢◌, ℕ, ◌+◌, ◌*◌, ◌%◌, ◌^◌, ◌<◌, ◌≤◌, refl, sym, ap, ◌∙◌, subst, arith, ⊎_elim, List, [], ◌∷◌, length, map, get_or, Bool, true, cond}
use Rattle.std.proofs.lemmas.Bool.{cases_Bool, cases_lt}
use Rattle.std.proofs.lemmas.List.{get_or-map, length-map, get_or_past, get_or_default}
use Rattle.std.proofs.lemmas.List.Elements.{Contains-get_or}
use Rattle.std.proofs.lemmas.List.Sums.{position_or_len_is}
use native.Mathlib.Nat.{zero-mod}
use Rattle.std.proofs.Math.Nat.{mod-eq_of_lt}
use Rattle.field_mod.specs.Sums.{total}
use Rattle.field_mod.specs.Modular.{Same}
use Rattle.field_mod.proofs.Sums.{total_same}
use Rattle.field_mod.proofs.Modular.{same_sym, same_trans, same-mul}
use Rattle.elem_cubes.specs.Cells.{Factor, dimension_of, same_cell}
use Rattle.elem_cubes.specs.Boundary.{boundary_at, boundary_coefficient}
use Rattle.elem_cubes.specs.Laws.{cell_at}
use Rattle.chains.specs.Terms.{coefficient, IsNormal}
use Rattle.chains.proofs.TermLists.{coefficient-lt}
use Rattle.chains.specs.ChainComplex.{ChainComplex, IsComplex, IsBadDegree, incidence, boundary}
use Rattle.cell_complex.specs.RelativeComplex.{is_relative, restriction_to}
use Rattle.cell_complex.specs.Numbering.{IsListing, IsOfPair, IsComplexOf, IsRelativeComplex, number_of}
use Rattle.cell_complex.specs.Boundaries.{unit_at, AreBoundaries}
use Rattle.cell_complex.specs.Laws.{NumberedCellsAreComplex}
use Rattle.elem_cubes.specs.OrderLemmas.{cell_refl, cell_cases}
use Rattle.elem_cubes.proofs.Modular.{exact, either-none}
use Rattle.elem_cubes.proofs.Boundaries.{coefficient-boundary, boundary_at_is_boundary}
use Rattle.elem_cubes.proofs.Zeros.{face_or_zero}
use Rattle.cell_complex.proofs.Deciding.{same_cell_sym}
use Rattle.cell_complex.proofs.Cofaces.{boundary_same}
use Rattle.cell_complex.proofs.Squares.{restriction-on, restriction-off, relative_complexes_are_complexes}

-- ---- places in a listing

pub listed : (test : List Factor → Bool) (cells : List (List Factor)) → IsListing test cells → (i : ℕ) → i < length cells → test (cell_at cells i) ≡ true
listed test cells l i lt = (l.members (cell_at cells i)).1 (Contains-get_or cells i [] lt)

-- the place of a cell
pub found : (test : List Factor → Bool) (cells : List (List Factor)) → IsListing test cells → (q : List Factor) → test q ≡ true → (i : ℕ) × (i < length cells) × (cell_at cells i ≡ q)
found test cells l q e = let w = (l.members q).0 e in (w.0, w.1, get_or_default cells w.0 [] q w.1 ∙ w.2)

pub number_at : (test : List Factor → Bool) (cells : List (List Factor)) → IsListing test cells → (i : ℕ) → i < length cells → number_of cells (cell_at cells i) ≡ i
number_at test cells l i lt =
    position_or_len_is (same_cell (cell_at cells i)) cells i [] (omega arith)
    (λ k below. ⊎_elim (λ e. absurd (let same : i ≡ k = l.once i k lt (omega arith) e in omega arith)) (λ f. f) (cell_cases (cell_at cells i) (cell_at cells k)))
    (λ _. cell_refl (cell_at cells i))

-- the number of a listed cell is below the length, and is the number of that cell
pub number_within : (test : List Factor → Bool) (cells : List (List Factor)) → IsListing test cells → (q : List Factor) → test q ≡ true → number_of cells q < length cells
number_within test cells l q e =
    let w = found test cells l q e in
    let n : number_of cells q ≡ w.0 = ap (number_of cells) (sym w.2) ∙ number_at test cells l w.0 w.1 in
    omega (arith, w.1)

pub at_number : (test : List Factor → Bool) (cells : List (List Factor)) → IsListing test cells → (q : List Factor) → test q ≡ true → cell_at cells (number_of cells q) ≡ q
at_number test cells l q e =
    let w = found test cells l q e in
    ap (cell_at cells) (ap (number_of cells) (sym w.2) ∙ number_at test cells l w.0 w.1) ∙ w.2

-- ---- the chain complex

pub coefficient-past : (p : ℕ) (q : List Factor) → boundary_coefficient p q [] ≡ 0
coefficient-past p [] = refl
coefficient-past p (q ∷ qs) = refl

belongs_where_nonzero : (test : List Factor → Bool) (c : List Factor → ℕ) (s : List Factor) → restriction_to test c s ≢ 0 → test s ≡ true
belongs_where_nonzero test c s nonzero = ⊎_elim (λ e. e) (λ e. absurd (nonzero (restriction-off test c s e))) (cases_Bool (test s))

module _ (p : ℕ) (x a cells : List (List Factor)) (K : ChainComplex) (R : IsRelativeComplex p x a cells K) where
  -- the boundary of a chain of numbers is that of the chain of cells with the same coefficients
  pub boundary_by_cell : (c : ℕ → ℕ) (f : List Factor → ℕ) → ((i : ℕ) → i < length cells → Same p (c i) (f (cell_at cells i)))
      → (g : ℕ) → Same p (boundary K.boundaries c g) (boundary_at p (cell_at cells g) (restriction_to (is_relative x a) f))
  boundary_by_cell c f m g =
      let test : List Factor → Bool = is_relative x a in
      let kept : List Factor → ℕ = restriction_to test f in
      let sum = total_same p (length cells) (λ i. c i * incidence K.boundaries i g) (λ i. kept (cell_at cells i) * boundary_coefficient p (cell_at cells i) (cell_at cells g))
      (λ i l. same-mul (same_trans (m i l) (exact p (sym (restriction-on test f (cell_at cells i) (listed test cells R.listing i l))))) (R.complex.incidences i g l)) in
      let whole = boundary_at_is_boundary p cells kept (cell_at cells g) R.listing.once (λ s face nonzero. found test cells R.listing s (belongs_where_nonzero test f s nonzero)) in
      same_trans (exact p (ap (λ n. total n (λ i. c i * incidence K.boundaries i g)) R.complex.count)) (same_trans sum whole)

  squares : 1 ≤ p → (i g : ℕ) → i < length K.boundaries → Same p (boundary K.boundaries (incidence K.boundaries i) g) 0
  squares h i g l =
      let test : List Factor → Bool = is_relative x a in
      let inside : i < length cells = omega (arith, R.complex.count) in
      let q : List Factor = cell_at cells i in
      let here : test q ≡ true = listed test cells R.listing i inside in
      let once : List Factor → ℕ = λ s. boundary_at p s (restriction_to test (unit_at q)) in
      let each = λ (s : List Factor). boundary_same p s (unit_at q) (restriction_to test (unit_at q)) (λ t f. same_sym (only test q here t)) in
      let matched = boundary_by_cell (incidence K.boundaries i) once (λ k m. same_trans (R.complex.incidences i k inside) (same_trans (exact p (coefficient-boundary p q (cell_at cells k))) (each (cell_at cells k)))) g in
      same_trans matched (⊎_elim
      (λ within. (relative_complexes_are_complexes.squares p x a h) (unit_at q) (cell_at cells g) (listed test cells R.listing g within))
      (λ beyond. exact p (ap (λ r. boundary_at p r (restriction_to test once)) (get_or_past cells g [] beyond)))
      (cases_lt g (length cells)))
    where
      only : (test : List Factor → Bool) (q : List Factor) → test q ≡ true → (t : List Factor) → Same p (restriction_to test (unit_at q) t) (unit_at q t)
      only test q here t = ⊎_elim
          (λ e. exact p (restriction-on test (unit_at q) t (ap test (sym e) ∙ here)))
          (λ f. exact p (ap (λ v. cond (test t) (cond v 1 0) 0) (same_cell_sym t q ∙ f) ∙ either-none (test t) ∙ sym (ap (λ v. cond v 1 0) (same_cell_sym t q ∙ f))))
          (cell_cases q t)

  lowers : 1 ≤ p → (i g : ℕ) → IsBadDegree K.degrees K.boundaries i g → ⊥
  lowers h i g B =
      let inside : i < length cells = omega (arith, B.generator, R.complex.count) in
      let q : List Factor = cell_at cells i in
      let e = R.complex.incidences i g inside in
      let small = coefficient-lt p 0 (2 ^ 32) (get_or K.boundaries i []) g h (R.complex.normal i inside) in
      let nonzero : boundary_coefficient p q (cell_at cells g) ≢ 0 = λ z. B.misplaced.named (sym (mod-eq_of_lt small) ∙ e.same ∙ ap (λ v. v % p) z ∙ zero-mod p) in
      let within : g < length cells = ⊎_elim (λ l. l) (λ beyond. absurd (nonzero (ap (boundary_coefficient p q) (get_or_past cells g [] beyond) ∙ coefficient-past p q))) (cases_lt g (length cells)) in
      let counted : length K.degrees ≡ length cells = ap length R.complex.degrees ∙ length-map cells dimension_of in
      let at = λ (k : ℕ) (l : k < length cells). ap (λ ds. get_or ds k 0) R.complex.degrees ∙ get_or-map dimension_of cells k [] 0 l in
      ⊎_elim
      (λ f. B.misplaced.degree ((omega (arith, counted, within)), ap (λ v. v + 1) (at g within) ∙ f.1 ∙ sym (at i inside)))
      (λ z. nonzero z)
      (face_or_zero p q (cell_at cells g))

pub numbered_cells_are_complex : NumberedCellsAreComplex
numbered_cells_are_complex p x a cells K h R = record {
  sizes = ap length R.complex.degrees ∙ length-map cells dimension_of ∙ sym R.complex.count;
  short = omega (arith, R.complex.short, R.complex.count);
  chains = λ i l. R.complex.normal i (omega (arith, R.complex.count));
  lowers = lowers p x a cells K R h;
  squares_to_zero = squares p x a cells K R h;
}

-- ---- the parts of a complex

pub from_parts : (p : ℕ) (cells : List (List Factor)) (K : ChainComplex) (degrees : List ℕ) (bs : List (List (ℕ × ℕ))) → K.degrees ≡ degrees → K.boundaries ≡ bs → degrees ≡ map dimension_of cells → AreBoundaries p cells bs → length bs ≡ length cells → length cells < 2 ^ 32 → IsComplexOf p cells K
from_parts p cells K degrees bs ed eb dimensions boundaries count few = record {
  degrees = ed ∙ dimensions;
  count = ap length eb ∙ count;
  short = few;
  normal = λ h l. subst (λ (cs : List (List (ℕ × ℕ))). IsNormal p (get_or cs h [])) (sym eb) (boundaries.each h (omega (arith, count, l))).normal;
  incidences = λ h g l. same_trans (exact p (ap (λ cs. coefficient (get_or cs h []) g) eb)) ((boundaries.each h (omega (arith, count, l))).coefficients g);
}

pub parts_are_complex : (p : ℕ) (cells : List (List Factor)) (degrees : List ℕ) (bs : List (List (ℕ × ℕ))) → 1 ≤ p → IsOfPair cells → degrees ≡ map dimension_of cells → AreBoundaries p cells bs → length bs ≡ length cells → length cells < 2 ^ 32 → IsComplex p (record { degrees = degrees; boundaries = bs })
parts_are_complex p cells degrees bs h pair dimensions boundaries count few =
    let K : ChainComplex = record { degrees = degrees; boundaries = bs } in
    numbered_cells_are_complex p pair.x pair.a cells K h (record { listing = pair.listing; complex = from_parts p cells K degrees bs refl refl dimensions boundaries count few })
