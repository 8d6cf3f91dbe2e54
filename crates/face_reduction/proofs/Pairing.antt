-- Logs whose steps are free pairs after a growth
use Rattle.std.proofs.Common.{◌≡◌, ◌≢◌, ℕ, ◌<◌, refl, sym, ap, ◌∙◌, arith, ⊎_elim, List, [], ◌∷◌, ◌++◌, length, Bool, true, false, ◌&&◌, ◌||◌, subst, append_assoc}
use Rattle.std.specs.Prelude.{not}
use Rattle.std.specs.Cmp as cmp
use Rattle.std.proofs.lemmas.Bool.{cases_lt, both_ways, and_parts, and_from, or_from, not-true, false_from_ne_true}
use Rattle.std.proofs.lemmas.List.{get_or_past}
use Rattle.field_mod.specs.Modular.{Same}
use Rattle.field_mod.proofs.Modular.{same_trans, same_sym, same-scale, same-mul}
use Rattle.elem_cubes.specs.Cells.{Factor, same_cell}
use Rattle.elem_cubes.specs.Faces.{IsFacet}
use Rattle.elem_cubes.specs.Order.{cell_cmp}
use Rattle.elem_cubes.specs.OrderLemmas.{cell_refl}
use Rattle.elem_cubes.specs.Laws.{cell_at}
use Rattle.elem_cubes.proofs.Modular.{exact}
use Rattle.elem_cubes.proofs.Signs.{facet_unit}
use Rattle.elem_cubes.proofs.Zeros.{face_or_zero}
use Rattle.chains.specs.ChainComplex.{ChainComplex, incidence}
use Rattle.cube_sets.specs.Sorted.{has}
use Rattle.algebraic_reduction.specs.Reduction.{Step, IsUnpaired}
use Rattle.algebraic_reduction.specs.Laws.{AreStepsOf}
use Rattle.cell_complex.specs.Sorted.{IsSortedCells}
use Rattle.cell_complex.specs.Numbering.{IsListing, IsComplexOf}
use Rattle.cell_complex.proofs.Deciding.{cell_true, has_is, has_from, from_has}
use Rattle.cell_complex.proofs.Sorting.{apart}
use Rattle.algebraic_reduction.specs.Restrictions.{LeaveRestrictions, IsFreeStep}
use Rattle.algebraic_reduction.proofs.Restrictions.{unpaired_parts, unpaired_both, steps_parts, free_steps}
use Rattle.excision.proofs.Moving.{faces}
use Rattle.cell_complex.specs.FreePairs.{IsFreePair, AreFreeInTurn, without_pair, without_pairs}
use Rattle.excision.specs.Left.{is_left}
use Rattle.face_reduction.specs.Logs.{cell_pairs, IsCollapse}
use Rattle.excision.proofs.Leaving.{left_parts, left_from}
use Rattle.face_reduction.specs.Laws.{CollapsesLeaveRestrictions, FreePairsAreUnits, CollapsesGoOn}

-- ---- tests that tell the same cells

pub free_alike : (alive other : List Factor → Bool) (ts : List (List Factor × List Factor)) → ((c : List Factor) → alive c ≡ other c) → AreFreeInTurn alive ts → AreFreeInTurn other ts
free_alike alive other ts e f = subst (λ (test : List Factor → Bool). AreFreeInTurn test ts) (λ i c. e c i) f

pub without_alike : (alive other : List Factor → Bool) (ts : List (List Factor × List Factor)) (c : List Factor) → ((c : List Factor) → alive c ≡ other c) → without_pairs ts alive c ≡ without_pairs ts other c
without_alike alive other ts c e = ap (λ (test : List Factor → Bool). without_pairs ts test c) (λ i d. e d i)

module _ (cells : List (List Factor)) (sorted : IsSortedCells cells) where
  listing : IsListing (has cell_cmp cells) cells
  listing = record {
    members = λ q. ((λ e. from_has cells q (sym (has_is cells q) ∙ e)), (λ w. has_is cells q ∙ has_from cells q w));
    once = apart cells sorted.sorted;
  }

  -- the two cells of a free pair are no empty cells, so their numbers are in range
  no_facet : (b : List Factor) → ¬ IsFacet b []
  no_facet [] f = absurd (let e = f.1 in omega arith)
  no_facet (b ∷ bs) f = f.0

  no_coface : (a : List Factor) → ¬ IsFacet [] a
  no_coface [] f = absurd (let e = f.1 in omega arith)
  no_coface (a ∷ fs) f = f.0

  pub face_inside : (a b : ℕ) → IsFacet (cell_at cells b) (cell_at cells a) → (a < length cells) × (b < length cells)
  face_inside a b f = (
    ⊎_elim (λ l. l) (λ l. absurd (no_facet (cell_at cells b) (subst (λ (r : List Factor). IsFacet (cell_at cells b) r) (get_or_past cells a [] l) f))) (cases_lt a (length cells)),
    ⊎_elim (λ l. l) (λ l. absurd (no_coface (cell_at cells a) (subst (λ (q : List Factor). IsFacet q (cell_at cells a)) (get_or_past cells b [] l) f))) (cases_lt b (length cells)),
  )

  -- one more step takes its two cells
  pub left_step : (ss : List Step) (s : Step) → s.a < length cells → s.b < length cells → (c : List Factor) → is_left cells (ss ++ s ∷ []) c ≡ without_pair (cell_at cells s.a, cell_at cells s.b) (is_left cells ss) c
  left_step ss s la lb c =
      let A = cell_at cells s.a in
      let B = cell_at cells s.b in
      cmp.both_ways (is_left cells (ss ++ s ∷ []) c) (is_left cells ss c && not (same_cell c A || same_cell c B))
      (λ e.
      let w = left_parts cells sorted (ss ++ s ∷ []) c e in
      let u = unpaired_parts ss (s ∷ []) w.0 w.3 in
      let other = λ (k : ℕ) (l : k < length cells) (n : w.0 ≢ k). false_from_ne_true (same_cell c (cell_at cells k)) (λ x. n (listing.once w.0 k w.1 l (w.2 ∙ cell_true c (cell_at cells k) x))) in
      and_from (is_left cells ss c) (not (same_cell c A || same_cell c B)) (ap (is_left cells ss) (sym w.2) ∙ left_from cells sorted ss w.0 w.1 u.0) (ap not (or_from (same_cell c A) (same_cell c B) (other s.a la u.1.0) (other s.b lb u.1.1))))
      (λ e.
      let v = and_parts (is_left cells ss c) (not (same_cell c A || same_cell c B)) e in
      let w = left_parts cells sorted ss c v.0 in
      let none = not-true (same_cell c A || same_cell c B) v.1 in
      let na : w.0 ≢ s.a = λ q. both_ways (same_cell c A || same_cell c B) none (ap (λ (r : List Factor). same_cell r A || same_cell r B) (sym w.2 ∙ ap (cell_at cells) q) ∙ ap (λ b. b || same_cell A B) (cell_refl A)) in
      let nb : w.0 ≢ s.b = λ q. both_ways (same_cell c A || same_cell c B) none (ap (λ (r : List Factor). same_cell r A || same_cell r B) (sym w.2 ∙ ap (cell_at cells) q) ∙ ap (λ b. same_cell B A || b) (cell_refl B) ∙ or_true (same_cell B A)) in
      ap (is_left cells (ss ++ s ∷ [])) (sym w.2) ∙ left_from cells sorted (ss ++ s ∷ []) w.0 w.1 (unpaired_both ss (s ∷ []) w.0 w.3 (na, nb, tt)))
    where
      or_true : (b : Bool) → (b || true) ≡ true
      or_true true = refl
      or_true false = refl

  one_behind : (ss more : List Step) (s : Step) → ss ++ s ∷ more ≡ (ss ++ s ∷ []) ++ more
  one_behind [] more s = refl
  one_behind (t ∷ ss) more s = ap (λ (us : List Step). t ∷ us) (one_behind ss more s)

  pub none_behind : (ss : List Step) → ss ++ [] ≡ ss
  none_behind [] = refl
  none_behind (t ∷ ss) = ap (λ (us : List Step). t ∷ us) (none_behind ss)

  -- the steps of free pairs, one by one
  next_free : (ss more : List Step) (s : Step) → AreFreeInTurn (is_left cells ss) (cell_pairs cells (s ∷ more)) → AreFreeInTurn (is_left cells (ss ++ s ∷ [])) (cell_pairs cells more)
  next_free ss more s f = let in_range = face_inside s.a s.b f.0.facet in free_alike (without_pair (cell_at cells s.a, cell_at cells s.b) (is_left cells ss)) (is_left cells (ss ++ s ∷ [])) (cell_pairs cells more) (λ c. sym (left_step ss s in_range.0 in_range.1 c)) f.1

  pub left_all_pairs : (ss more : List Step) → AreFreeInTurn (is_left cells ss) (cell_pairs cells more) → (c : List Factor) → is_left cells (ss ++ more) c ≡ without_pairs (cell_pairs cells more) (is_left cells ss) c
  left_all_pairs ss [] f c = ap (λ (us : List Step). is_left cells us c) (none_behind ss)
  left_all_pairs ss (s ∷ more) f c =
      let in_range = face_inside s.a s.b f.0.facet in
      ap (λ (us : List Step). is_left cells us c) (one_behind ss more s)
      ∙ left_all_pairs (ss ++ s ∷ []) more (next_free ss more s f) c
      ∙ without_alike (is_left cells (ss ++ s ∷ [])) (without_pair (cell_at cells s.a, cell_at cells s.b) (is_left cells ss)) (cell_pairs cells more) c (left_step ss s in_range.0 in_range.1)

  -- ---- restrictions

  module _ (p : ℕ) (K : ChainComplex) (C : IsComplexOf p cells K) where
    -- of the cells left, only b has a in its boundary
    alone : (ss : List Step) (a b : ℕ) → b < length cells → IsFreePair (is_left cells ss) (cell_at cells a) (cell_at cells b) → (h : ℕ) → IsUnpaired ss h → h ≢ b → Same p (incidence K.boundaries h a) 0
    alone ss a b lb f h u n = ⊎_elim
        (λ l. same_trans (C.incidences h a l) (⊎_elim
        (λ k. absurd (n (listing.once h b l lb (f.only (cell_at cells h) (left_from cells sorted ss h l u) k))))
        (λ e. exact p e)
        (face_or_zero p (cell_at cells h) (cell_at cells a))))
        (λ l. exact p (ap (λ (ts : List (ℕ × ℕ)). Rattle.chains.specs.Terms.coefficient ts a) (get_or_past K.boundaries h [] (omega (arith, C.count)))))
        (cases_lt h (length cells))

    pub number_left : (ss : List Step) (i : ℕ) → i < length cells → is_left cells ss (cell_at cells i) ≡ true → IsUnpaired ss i
    number_left ss i l e = let w = left_parts cells sorted ss (cell_at cells i) e in subst (λ (k : ℕ). IsUnpaired ss k) (listing.once w.0 i w.1 l w.2) w.3

    more_restrict : (ss more : List Step) → LeaveRestrictions p K ss → AreStepsOf p K (ss ++ more) → AreFreeInTurn (is_left cells ss) (cell_pairs cells more) → LeaveRestrictions p K (ss ++ more)
    more_restrict ss [] r l f = subst (λ (us : List Step). LeaveRestrictions p K us) (sym (none_behind ss)) r
    more_restrict ss (s ∷ more) r l f =
        let in_range = face_inside s.a s.b f.0.facet in
        let parts = steps_parts p (length K.boundaries) (incidence K.boundaries) ss (s ∷ more) l in
        let st = parts.1.0 in
        let a_alive = number_left ss s.a in_range.0 f.0.face_alive in
        let b_alive = number_left ss s.b in_range.1 f.0.coface_alive in
        let free : IsFreeStep p K ss s = record {
          a_in = st.a_in;
          b_in = st.b_in;
          a_alive = a_alive;
          b_alive = b_alive;
          apart = st.apart;
          inverts = same_trans (same-scale s.inverse (same_sym (r s.b s.a b_alive a_alive))) st.inverts;
          only = alone ss s.a s.b in_range.1 f.0;
        } in
        subst (λ (us : List Step). LeaveRestrictions p K us) (sym (one_behind ss more s))
        (more_restrict (ss ++ s ∷ []) more (free_steps p K ss s parts.0 r free).1 (subst (λ (us : List Step). AreStepsOf p K us) (one_behind ss more s) l) (next_free ss more s f))

pub restrict : CollapsesLeaveRestrictions
restrict p cells K ss sorted C l g =
    let steps : AreStepsOf p K (g.first ++ g.later) = subst (λ (us : List Step). AreStepsOf p K us) g.steps l in
    let first = (steps_parts p (length K.boundaries) (incidence K.boundaries) g.first g.later steps).0 in
    subst (λ (us : List Step). LeaveRestrictions p K us) (sym g.steps)
    (more_restrict cells sorted p K C g.first g.later (faces p cells g.cubes K g.first C first g.growth) steps g.collapse)

pub units : FreePairsAreUnits
units p cells K ss a b positive sorted C r la lb f =
    let a_alive = number_left cells sorted p K C ss a la f.face_alive in
    let b_alive = number_left cells sorted p K C ss b lb f.coface_alive in
    let e = same_trans (r b a b_alive a_alive) (C.incidences b a lb) in
    record { a_alive = a_alive; b_alive = b_alive; unit = same_trans (same-mul e e) (facet_unit p (cell_at cells b) (cell_at cells a) positive f.facet) }

pub free_both : (cells : List (List Factor)) (alive : List Factor → Bool) (ss more : List Step) → AreFreeInTurn alive (cell_pairs cells ss) → AreFreeInTurn (without_pairs (cell_pairs cells ss) alive) (cell_pairs cells more) → AreFreeInTurn alive (cell_pairs cells (ss ++ more))
free_both cells alive [] more f g = g
free_both cells alive (s ∷ ss) more f g = (f.0, free_both cells (without_pair (cell_at cells s.a, cell_at cells s.b) alive) ss more f.1 g)

-- further free pairs behind free pairs
pub free_behind : (cells : List (List Factor)) → IsSortedCells cells → (old mid ss more : List Step) → mid ≡ old ++ ss → AreFreeInTurn (is_left cells old) (cell_pairs cells ss) → AreFreeInTurn (is_left cells mid) (cell_pairs cells more) → AreFreeInTurn (is_left cells old) (cell_pairs cells (ss ++ more))
free_behind cells sorted old mid ss more e f g = free_both cells (is_left cells old) ss more f
    (free_alike (is_left cells mid) (without_pairs (cell_pairs cells ss) (is_left cells old)) (cell_pairs cells more) (λ d. ap (λ (us : List Step). is_left cells us d) e ∙ left_all_pairs cells sorted old ss f d) g)

pub collapse_none : (cells : List (List Factor)) (ss : List Step) → IsSortedCells cells → IsCollapse cells ss ss
collapse_none cells ss sorted = record { more = []; steps = sym (none_behind cells sorted ss); free = tt }

pub collapse_both : (cells : List (List Factor)) (old mid new : List Step) → IsSortedCells cells → IsCollapse cells old mid → IsCollapse cells mid new → IsCollapse cells old new
collapse_both cells old mid new sorted f g = record {
  more = f.more ++ g.more;
  steps = g.steps ∙ ap (λ (us : List Step). us ++ g.more) f.steps ∙ append_assoc old f.more g.more;
  free = free_behind cells sorted old mid f.more g.more f.steps f.free g.free;
}

pub go_on : CollapsesGoOn
go_on cells old new sorted c = (
  record { pairs = cell_pairs cells c.more; free = c.free; left = λ d. ap (λ (us : List Step). is_left cells us d) c.steps ∙ left_all_pairs cells sorted old c.more c.free d },
  λ g. record {
    cubes = g.cubes;
    first = g.first;
    later = g.later ++ c.more;
    steps = c.steps ∙ ap (λ (us : List Step). us ++ c.more) g.steps ∙ append_assoc g.first g.later c.more;
    growth = g.growth;
    collapse = free_behind cells sorted g.first old g.later c.more g.steps g.collapse c.free;
  },
)
