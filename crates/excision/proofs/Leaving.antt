-- The cells that a log leaves: by their numbers, and, of the cells of a set, as those that are no cells of the subset
use Rattle.std.proofs.Common.{◌≡◌, ℕ, ◌<◌, refl, sym, ap, ◌∙◌, ⊎_elim, List, [], ◌∷◌, ◌++◌, length, Bool, true, false, ◌&&◌, ◌||◌, subst, eqb, eq-eqb, ne_eqb, Some}
use Rattle.std.specs.Prelude.{not, slice_get, IsTrue}
use Rattle.std.specs.List.{Contains, list_all}
use Rattle.std.specs.Cmp as cmp
use Rattle.std.proofs.lemmas.Bool.{true≢false, cases_Bool, both_ways, and_parts, and_from, not-true, false_from_ne_true}
use Rattle.std.proofs.lemmas.List.Elements.{Contains-get_or}
use Rattle.std.proofs.lemmas.List.Folds.{list_any-append}
use Rattle.std.proofs.lemmas.Option.{slice_get_within, get_or_from_slice_get}
use Rattle.elem_cubes.specs.Cells.{Factor, is_file_factor}
use Rattle.elem_cubes.specs.Faces.{is_face}
use Rattle.elem_cubes.specs.Order.{cell_cmp}
use Rattle.elem_cubes.specs.Laws.{cell_at}
use Rattle.elem_cubes.proofs.Conjunctions.{all_at}
use Rattle.cube_sets.specs.Sorted.{has}
use Rattle.cube_sets.specs.Closures.{is_cell_of}
use Rattle.algebraic_reduction.specs.Reduction.{Step, IsUnpaired}
use Rattle.cell_complex.specs.RelativeComplex.{is_relative}
use Rattle.cell_complex.specs.Sorted.{IsSortedCells}
use Rattle.cell_complex.specs.Numbering.{IsListing, number_of}
use Rattle.cell_complex.specs.Growth.{IsMovable}
use Rattle.cell_complex.proofs.Deciding.{has_is, has_from, from_has, closed}
use Rattle.cell_complex.proofs.Numbering.{listed, found, number_at, number_within, at_number}
use Rattle.cell_complex.proofs.Sorting.{apart}
use Rattle.excision.specs.Left.{is_unpaired, is_left, is_gone, IsMovableInto, IsClosedIn}
use Rattle.excision.specs.Taking.{TakeFaces}
use Rattle.excision.proofs.Touching.{movable_by, member_cell}

pub unpaired_test : (ss : List Step) (g : ℕ) → is_unpaired ss g ≡ true → IsUnpaired ss g
unpaired_test [] g e = tt
unpaired_test (s ∷ ss) g e =
    let u = and_parts (not (eqb g s.a)) (not (eqb g s.b) && is_unpaired ss g) e in
    let v = and_parts (not (eqb g s.b)) (is_unpaired ss g) u.1 in
    ((λ q. both_ways (eqb g s.a) (not-true (eqb g s.a) u.0) (eq-eqb g s.a q)), (λ q. both_ways (eqb g s.b) (not-true (eqb g s.b) v.0) (eq-eqb g s.b q)), unpaired_test ss g v.1)

pub test_unpaired : (ss : List Step) (g : ℕ) → IsUnpaired ss g → is_unpaired ss g ≡ true
test_unpaired [] g u = refl
test_unpaired (s ∷ ss) g u = and_from (not (eqb g s.a)) (not (eqb g s.b) && is_unpaired ss g) (ap not (ne_eqb g s.a u.0)) (and_from (not (eqb g s.b)) (is_unpaired ss g) (ap not (ne_eqb g s.b u.1)) (test_unpaired ss g u.2))

module _ (cells : List (List Factor)) (sorted : IsSortedCells cells) where
  pub listing : IsListing (has cell_cmp cells) cells
  listing = record {
    members = λ q. ((λ e. from_has cells q (sym (has_is cells q) ∙ e)), (λ w. has_is cells q ∙ has_from cells q w));
    once = apart cells sorted.sorted;
  }

  pub left_parts : (ss : List Step) (c : List Factor) → is_left cells ss c ≡ true → (i : ℕ) × (i < length cells) × (cell_at cells i ≡ c) × IsUnpaired ss i
  left_parts ss c e =
      let w = and_parts (has cell_cmp cells c) (is_unpaired ss (number_of cells c)) e in
      (number_of cells c, number_within (has cell_cmp cells) cells listing c w.0, at_number (has cell_cmp cells) cells listing c w.0, unpaired_test ss (number_of cells c) w.1)

  pub left_from : (ss : List Step) (i : ℕ) → i < length cells → IsUnpaired ss i → is_left cells ss (cell_at cells i) ≡ true
  left_from ss i l u = and_from (has cell_cmp cells (cell_at cells i)) (is_unpaired ss (number_of cells (cell_at cells i)))
      ((listing.members (cell_at cells i)).1 (Contains-get_or cells i [] l))
      (ap (is_unpaired ss) (number_at (has cell_cmp cells) cells listing i l) ∙ test_unpaired ss i u)

-- ---- the number of a cell that is left

pub not_numbered : (cells : List (List Factor)) (ss : List Step) (c : List Factor) → ¬ Contains cells c → is_left cells ss c ≡ false
not_numbered cells ss c n = false_from_ne_true (is_left cells ss c) (λ e. n (from_has cells c (sym (has_is cells c) ∙ (and_parts (has cell_cmp cells c) (is_unpaired ss (number_of cells c)) e).0)))

pub place_of_cell : (cells : List (List Factor)) (n : ℕ) (c : List Factor) → slice_get cells n ≡ Some c → (n < length cells) × (cell_at cells n ≡ c)
place_of_cell cells n c e = (slice_get_within cells n c e, get_or_from_slice_get cells n c [] e)

pub number_is_left : (cells : List (List Factor)) (ss : List Step) (n : ℕ) (c : List Factor) → IsSortedCells cells → slice_get cells n ≡ Some c → IsUnpaired ss n → is_left cells ss c ≡ true
number_is_left cells ss n c sorted e u = let w = place_of_cell cells n c e in ap (is_left cells ss) (sym w.1) ∙ left_from cells sorted ss n w.0 u

pub number_is_taken : (cells : List (List Factor)) (ss : List Step) (n : ℕ) (c : List Factor) → IsSortedCells cells → slice_get cells n ≡ Some c → ¬ IsUnpaired ss n → is_left cells ss c ≡ false
number_is_taken cells ss n c sorted e u = false_from_ne_true (is_left cells ss c) (λ l.
    let w = place_of_cell cells n c e in
    let v = left_parts cells sorted ss c l in
    u (subst (λ (k : ℕ). IsUnpaired ss k) (apart cells sorted.sorted v.0 n v.1 w.0 (v.2 ∙ sym w.1)) v.3))

pub cell_in_range : (cells : List (List Factor)) (n : ℕ) (c : List Factor) → IsSortedCells cells → n < length cells → c ≡ cell_at cells n → IsTrue (list_all is_file_factor c)
cell_in_range cells n c sorted l e = subst (λ (q : List Factor). IsTrue (list_all is_file_factor q)) (sym e) (all_at (list_all is_file_factor) cells n [] sorted.in_range l)

-- ---- after a growth

module _ (x a cells cubes : List (List Factor)) (ss : List Step) (sorted : IsSortedCells cells) (L : IsListing (is_relative x a) cells) (taken : TakeFaces cells cubes ss) where
  -- a cell of x is gone where it is a cell of a or of the cubes
  pub told : (c : List Factor) → is_cell_of x c ≡ true → is_gone cells ss c ≡ is_cell_of (a ++ cubes) c
  told c in_x = cmp.both_ways (is_gone cells ss c) (is_cell_of (a ++ cubes) c)
      (λ g. ⊎_elim (λ e. e) (λ e. absurd (alive e (not-true (is_left cells ss c) g))) (cases_Bool (is_cell_of (a ++ cubes) c)))
      (λ d. ⊎_elim (λ e. absurd (dead d e)) (λ e. ap not e) (cases_Bool (is_left cells ss c)))
    where
      split : is_cell_of (a ++ cubes) c ≡ (is_cell_of a c || is_cell_of cubes c)
      split = list_any-append (λ s. is_face s c) a cubes

      none : (u v : Bool) → (u || v) ≡ false → (u ≡ false) × (v ≡ false)
      none true v e = absurd (true≢false e)
      none false v e = (refl, e)

      alive : is_cell_of (a ++ cubes) c ≡ false → is_left cells ss c ≡ false → ⊥
      alive e f =
          let w = none (is_cell_of a c) (is_cell_of cubes c) (sym split ∙ e) in
          let n = found (is_relative x a) cells L c (and_from (is_cell_of x c) (not (is_cell_of a c)) in_x (ap not w.0)) in
          both_ways (is_left cells ss c) f (ap (is_left cells ss) (sym n.2) ∙ left_from cells sorted ss n.0 n.1 ((taken n.0 n.1).1 (ap (is_cell_of cubes) n.2 ∙ w.1)))

      dead : is_cell_of (a ++ cubes) c ≡ true → is_left cells ss c ≡ true → ⊥
      dead d e =
          let n = left_parts cells sorted ss c e in
          let r = and_parts (is_cell_of x (cell_at cells n.0)) (not (is_cell_of a (cell_at cells n.0))) (listed (is_relative x a) cells L n.0 n.1) in
          let na : is_cell_of a c ≡ false = ap (is_cell_of a) (sym n.2) ∙ not-true (is_cell_of a (cell_at cells n.0)) r.1 in
          let nc : is_cell_of cubes c ≡ false = ap (is_cell_of cubes) (sym n.2) ∙ (taken n.0 n.1).0 n.3 in
          true≢false (sym d ∙ split ∙ ap (λ b. b || is_cell_of cubes c) na ∙ nc)

  pub gone_closed : (q : List Factor) → Contains x q → IsClosedIn q (is_gone cells ss)
  gone_closed q w c r f g e =
      let in_c = member_cell x q c w f in
      let in_r = closed x c r g in_c in
      told r in_r ∙ closed (a ++ cubes) c r g (sym (told c in_c) ∙ e)

  pub movable_into : (p : ℕ) (q : List Factor) → Contains x q → IsMovable p (a ++ cubes) q → IsMovableInto p (is_gone cells ss) q
  movable_into p q w m = movable_by p (is_cell_of (a ++ cubes)) (is_gone cells ss) q (λ c f. sym (told c (member_cell x q c w f))) (record { new = m.new; acyclic = m.acyclic })

  pub movable_from : (p : ℕ) (q : List Factor) → Contains x q → IsMovableInto p (is_gone cells ss) q → IsMovable p (a ++ cubes) q
  movable_from p q w m = let v = movable_by p (is_gone cells ss) (is_cell_of (a ++ cubes)) q (λ c f. told c (member_cell x q c w f)) m in record { new = v.new; acyclic = v.acyclic }
