-- One move of a growth, and steps that take the faces of some cubes
use Rattle.std.proofs.Common.{◌≡◌, ◌≢◌, ℕ, ◌*◌, ◌<◌, ◌≤◌, ◌⊎◌, inl, inr, refl, sym, ap, ◌∙◌, arith, ⊎_elim, List, [], ◌∷◌, ◌++◌, length, Bool, true, false, cond, ◌&&◌, ◌||◌, subst, ltb, get_or}
use Rattle.std.specs.Prelude.{not, slice_index}
use Rattle.std.specs.List.{Contains}
use Rattle.std.proofs.lemmas.Bool.{cases_Bool, cases_lt, both_ways, and_parts, and_from, not-true, ltb-true, lt-ltb, false_from_ne_true}
use Rattle.std.proofs.lemmas.List.{get_or-map, get_or_past}
use Rattle.std.proofs.lemmas.List.Folds.{list_any_at, list_any-append}
use Rattle.field_mod.specs.Sums.{total}
use Rattle.field_mod.specs.Modular.{Same}
use Rattle.field_mod.proofs.Sums.{total_same, total_none}
use Rattle.field_mod.proofs.Modular.{same_refl, same_sym, same_trans, same-scale, same-mul}
use Rattle.elem_cubes.specs.Cells.{Factor, dimension_of}
use Rattle.elem_cubes.specs.Faces.{IsFace, IsFacet, is_face}
use Rattle.elem_cubes.specs.Boundary.{boundary_at, boundary_coefficient}
use Rattle.elem_cubes.specs.Laws.{cell_at}
use Rattle.elem_cubes.proofs.Modular.{exact}
use Rattle.elem_cubes.proofs.FaceLemmas.{face_trans}
use Rattle.elem_cubes.proofs.Boundaries.{boundary_at_is_boundary}
use Rattle.elem_cubes.proofs.Zeros.{face_or_zero}
use Rattle.chains.specs.Homology.{IsCycle, IsNull}
use Rattle.chains.specs.ChainComplex.{ChainComplex, IsComplex, incidence}
use Rattle.cube_sets.specs.Closures.{is_cell_of}
use Rattle.algebraic_reduction.specs.Reduction.{boundary_by, Step, IsUnpaired, AreSteps, left}
use Rattle.algebraic_reduction.specs.Laws.{AreStepsOf, left_of}
use Rattle.cell_complex.specs.RelativeComplex.{is_relative, restriction_to, complex_on}
use Rattle.cell_complex.specs.Numbering.{IsComplexOf, IsRelativeComplex, by_cell, number_of}
use Rattle.cell_complex.proofs.Deciding.{closed, face_true, face_from}
use Rattle.cell_complex.proofs.Squares.{restriction-on, restriction-off}
use Rattle.cell_complex.proofs.Numbering.{listed, found, number_at, coefficient-past, numbered_cells_are_complex}
use Rattle.elem_cubes.specs.Cells.{same_cell}
use Rattle.std.proofs.lemmas.List.Sums.{passes_at_first}
use Rattle.std.proofs.lemmas.Bool.{true≢false, le-ltb}
use Rattle.cell_complex.proofs.Deciding.{cell_true}
use Rattle.algebraic_reduction.proofs.Linear.{paired_dead}
use Rattle.algebraic_reduction.proofs.Bridge.{grade, is_boundary}
use Rattle.algebraic_reduction.specs.Restrictions.{LeaveRestrictions, IsClosedPart, AreWithin, IsOnPart, IsAcyclicPart}
use Rattle.cell_complex.specs.Growth.{IsMovable}
use Rattle.excision.specs.Taking.{TakeFaces, is_number_of_new}
use Rattle.excision.specs.Laws.{MovesLeaveRestrictions, FacesLeaveRestrictions}
use Rattle.algebraic_reduction.proofs.LeftBasis.{decide_unpaired}
use Rattle.algebraic_reduction.proofs.Restrictions.{apart, unpaired_parts, unpaired_both, steps_parts, steps_within}
use Rattle.algebraic_reduction.proofs.AcyclicParts.{acyclic_parts}
use Rattle.cell_complex.proofs.Meeting.{movable_cells}

-- ---- steps and generators

-- what the steps take is in the part where every generator that is not left is
within_by : (p n : ℕ) (D : ℕ → ℕ → ℕ) (part : ℕ → Bool) (ss : List Step) → AreSteps p n D ss → ((g : ℕ) → g < n → ¬ IsUnpaired ss g → part g ≡ true) → AreWithin part ss
within_by p n D part [] l h = tt
within_by p n D part (s ∷ ss) l h = (
  h s.a l.0.a_in (λ u. u.0 refl),
  h s.b l.0.b_in (λ u. u.1 refl),
  within_by p n (left p D s) part ss l.1 (λ g small w. h g small (λ u. w u.2)),
)

outside_unpaired : (part : ℕ → Bool) (ss : List Step) (g : ℕ) → AreWithin part ss → part g ≡ false → IsUnpaired ss g
outside_unpaired part [] g w e = tt
outside_unpaired part (s ∷ ss) g w e = (apart part g s.a e w.0, apart part g s.b e w.1, outside_unpaired part ss g w.2 e)

-- ---- the cells of some cubes

one_more : (cubes : List (List Factor)) (q s : List Factor) → is_cell_of (cubes ++ q ∷ []) s ≡ (is_cell_of cubes s || is_face q s)
one_more cubes q s = list_any-append (λ r. is_face r s) cubes (q ∷ []) ∙ ap (λ b. is_cell_of cubes s || b) (or_false (is_face q s))
  where
    or_false : (b : Bool) → (b || false) ≡ b
    or_false true = refl
    or_false false = refl

member_cell : (x : List (List Factor)) (q s : List Factor) → Contains x q → IsFace q s → is_cell_of x s ≡ true
member_cell x q s w f = list_any_at (λ r. is_face r s) x w.0 q w.1 (face_from (get_or x w.0 q) s (let P : List Factor → Type 0 = λ r. IsFace r s in subst P (sym w.2) f))

-- ---- the numbered cells

module _ (p : ℕ) (cells : List (List Factor)) (K : ChainComplex) (C : IsComplexOf p cells K) where
  abbrev at : ℕ → List Factor
  at = cell_at cells

  abbrev D : ℕ → ℕ → ℕ
  D = incidence K.boundaries

  incident : (h g : ℕ) → h < length cells → (IsFacet (at h) (at g) × (g < length cells)) ⊎ Same p (D h g) 0
  incident h g l = ⊎_elim
      (λ m. ⊎_elim (λ f. inl (f, m)) (λ e. inr (same_trans (C.incidences h g l) (exact p e))) (face_or_zero p (at h) (at g)))
      (λ m. inr (same_trans (C.incidences h g l) (exact p (ap (boundary_coefficient p (at h)) (get_or_past cells g [] m) ∙ coefficient-past p (at h)))))
      (cases_lt g (length cells))

  degree_at : (i : ℕ) → i < length cells → slice_index K.degrees i ≡ dimension_of (at i)
  degree_at i l = ap (λ ds. get_or ds i 0) C.degrees ∙ get_or-map dimension_of cells i [] 0 l

  module _ (cubes : List (List Factor)) (ss : List Step) (steps : AreStepsOf p K ss) (taken : TakeFaces cells cubes ss) where
    abbrev of_cubes : ℕ → Bool
    of_cubes i = ltb i (length cells) && is_cell_of cubes (at i)

    of_cubes-parts : (i : ℕ) → of_cubes i ≡ true → (i < length cells) × (is_cell_of cubes (at i) ≡ true)
    of_cubes-parts i e = let w = and_parts (ltb i (length cells)) (is_cell_of cubes (at i)) e in (ltb-true i (length cells) w.0, w.1)

    of_cubes-from : (i : ℕ) → i < length cells → is_cell_of cubes (at i) ≡ true → of_cubes i ≡ true
    of_cubes-from i l e = and_from (ltb i (length cells)) (is_cell_of cubes (at i)) (lt-ltb i (length cells) l) e

    faces_restrict : LeaveRestrictions p K ss
    faces_restrict = steps_within p K [] ss of_cubes (λ h g u v. same_refl p (D h g)) closed_cubes
        (within_by p (length K.boundaries) D of_cubes ss steps (λ g small n. ⊎_elim (λ e. of_cubes-from g (omega (arith, small, C.count)) e) (λ e. absurd (n ((taken g (omega (arith, small, C.count))).1 e))) (cases_Bool (is_cell_of cubes (at g)))))
        (λ g e u. let w = of_cubes-parts g e in both_ways (is_cell_of cubes (at g)) ((taken g w.0).0 u) w.1)
      where
        closed_cubes : IsClosedPart p D of_cubes
        closed_cubes h g e f = let w = of_cubes-parts h e in ⊎_elim (λ i. absurd (both_ways (of_cubes g) f (of_cubes-from g i.1 (closed cubes (at h) (at g) i.0.0 w.1)))) (λ z. z) (incident h g w.0)

pub faces : FacesLeaveRestrictions
faces p cells cubes K ss C steps taken = faces_restrict p cells K C cubes ss steps taken

-- ---- one move

module _ (p : ℕ) (x a cells cubes : List (List Factor)) (K : ChainComplex) (ss more : List Step) (q : List Factor)
    (two : 2 ≤ p) (R : IsRelativeComplex p x a cells K) (member : Contains x q) (movable : IsMovable p (a ++ cubes) q)
    (r : LeaveRestrictions p K ss) (taken : TakeFaces cells cubes ss) (steps : AreStepsOf p K (ss ++ more)) where
  abbrev pub n : ℕ
  n = length K.boundaries

  abbrev pub to : ℕ → List Factor
  to = cell_at cells

  abbrev pub E : ℕ → ℕ → ℕ
  E = left_of p K ss

  abbrev pub dead : List Factor → Bool
  dead = is_cell_of (a ++ cubes)

  abbrev pub outer : List Factor → Bool
  outer s = is_face q s && not (dead s)

  abbrev pub part : ℕ → Bool
  part = is_number_of_new cells (a ++ cubes) q

  complex : IsComplex p K
  complex = numbered_cells_are_complex p x a cells K (omega arith) R

  pub outer_parts : (s : List Factor) → outer s ≡ true → IsFace q s × (dead s ≡ false)
  outer_parts s e = let w = and_parts (is_face q s) (not (dead s)) e in (face_true q s w.0, not-true (dead s) w.1)

  pub outer_from : (s : List Factor) → IsFace q s → dead s ≡ false → outer s ≡ true
  outer_from s f e = and_from (is_face q s) (not (dead s)) (face_from q s f) (ap not e)

  pub part_parts : (i : ℕ) → part i ≡ true → (i < length cells) × (outer (to i) ≡ true)
  part_parts i e = let w = and_parts (ltb i (length cells)) (outer (to i)) e in (ltb-true i (length cells) w.0, w.1)

  pub part_from : (i : ℕ) → i < length cells → outer (to i) ≡ true → part i ≡ true
  part_from i l e = and_from (ltb i (length cells)) (outer (to i)) (lt-ltb i (length cells) l) e

  part_off : (i : ℕ) → i < length cells → part i ≡ false → outer (to i) ≡ false
  part_off i l e = false_from_ne_true (outer (to i)) (λ o. both_ways (part i) e (part_from i l o))

  -- a listed cell is dead where it is one of the cubes
  pub dead_listed : (i : ℕ) → i < length cells → dead (to i) ≡ is_cell_of cubes (to i)
  dead_listed i l =
      let w = and_parts (is_cell_of x (to i)) (not (is_cell_of a (to i))) (listed (is_relative x a) cells R.listing i l) in
      list_any-append (λ s. is_face s (to i)) a cubes ∙ ap (λ b. b || is_cell_of cubes (to i)) (not-true (is_cell_of a (to i)) w.1)

  pub part_unpaired : (i : ℕ) → part i ≡ true → IsUnpaired ss i
  part_unpaired i e = let w = part_parts i e in (taken i w.0).1 (sym (dead_listed i w.0) ∙ (outer_parts (to i) w.1).1)

  -- a new face has a number
  pub numbered : (s : List Factor) → outer s ≡ true → (i : ℕ) × (i < length cells) × (to i ≡ s)
  numbered s e =
      let w = outer_parts s e in
      let out : is_cell_of a s ≡ false = (or_parts_false (is_cell_of a s) (is_cell_of cubes s) (sym (list_any-append (λ c. is_face c s) a cubes) ∙ w.1)) in
      found (is_relative x a) cells R.listing s (and_from (is_cell_of x s) (not (is_cell_of a s)) (member_cell x q s member w.0) (ap not out))
    where
      or_parts_false : (u v : Bool) → (u || v) ≡ false → u ≡ false
      or_parts_false true v e = absurd (true≢false e)
      or_parts_false false v e = refl

  pub part_closed : IsClosedPart p E part
  part_closed h g e f =
      let w = part_parts h e in
      ⊎_elim
      (λ u. same_trans (r h g (part_unpaired h e) u) (⊎_elim
      (λ i. absurd (both_ways (part g) f (part_from g i.1 (outer_from (to g) (face_trans q (to h) (to g) (outer_parts (to h) w.1).0 i.0.0) (dead_listed g i.1 ∙ (taken g i.1).0 u)))))
      (λ z. z)
      (incident p cells K R.complex h g w.0)))
      (λ u. (paired_dead p n (grade K.degrees) two (incidence K.boundaries) ss g (is_boundary p K complex) (steps_parts p n (incidence K.boundaries) ss more steps).0 u).column h)
      (decide_unpaired ss g)

  -- sums over the numbers are boundaries over the cells
  sums : (z : ℕ → ℕ) (f : List Factor → ℕ) → IsOnPart p part z → ((i : ℕ) → part i ≡ true → Same p (z i) (f (to i))) → (i : ℕ) → part i ≡ true → Same p (boundary_by n E z i) (boundary_at p (to i) (restriction_to outer f))
  sums z f on same i e =
      let c : List Factor → ℕ = restriction_to outer f in
      let each : (h : ℕ) → h < length cells → Same p (z h * E h i) (c (to h) * boundary_coefficient p (to h) (to i)) = λ h l. ⊎_elim
      (λ b. same_mul (same_trans (same h b) (exact p (sym (restriction-on outer f (to h) (part_parts h b).1)))) (same_trans (r h i (part_unpaired h b) (part_unpaired i e)) (R.complex.incidences h i l)))
      (λ b. let none : c (to h) ≡ 0 = restriction-off outer f (to h) (part_off h l b) in
      same_trans {b = 0 * E h i} (same_mul (on h b) (same_refl p (E h i))) (exact p (omega arith ∙ ap (λ v. v * boundary_coefficient p (to h) (to i)) (sym none))))
      (cases_Bool (part h)) in
      same_trans (exact p (ap (λ m. total m (λ h. z h * E h i)) R.complex.count))
      (same_trans (total_same p (length cells) (λ h. z h * E h i) (λ h. c (to h) * boundary_coefficient p (to h) (to i)) each)
      (boundary_at_is_boundary p cells c (to i) R.listing.once (λ s g nonzero. numbered s (⊎_elim (λ b. b) (λ b. absurd (nonzero (restriction-off outer f s b))) (cases_Bool (outer s))))))
    where
      same_mul : {a b c d : ℕ} → Same p a b → Same p c d → Same p (a * c) (b * d)
      same_mul = same-mul

  module _ (k : ℕ) (z : ℕ → ℕ) (on : IsOnPart p part z) (of : (g : ℕ) → slice_index K.degrees g ≢ k → Same p (z g) 0) (cycle : (g : ℕ) → Same p (boundary_by n E z g) 0) where
    abbrev f : List Factor → ℕ
    f = by_cell cells z

    f_at : (i : ℕ) → i < length cells → f (to i) ≡ z i
    f_at i l = ap (λ m. cond (ltb m (length cells)) (z m) 0) (number_at (is_relative x a) cells R.listing i l) ∙ ap (λ b. cond b (z i) 0) (lt-ltb i (length cells) l)

    -- a fact of the chain at listed cells holds at all
    f_by : (s : List Factor) → ((i : ℕ) → i < length cells → to i ≡ s → Same p (z i) 0) → Same p (f s) 0
    f_by s h = ⊎_elim
        (λ l. same_trans (exact p (ap (λ b. cond b (z (number_of cells s)) 0) (lt-ltb (number_of cells s) (length cells) l))) (h (number_of cells s) l (sym (cell_true s (to (number_of cells s)) (passes_at_first (same_cell s) cells [] l)))))
        (λ l. exact p (ap (λ b. cond b (z (number_of cells s)) 0) (le-ltb (number_of cells s) (length cells) l)))
        (cases_lt (number_of cells s) (length cells))

    cycle_of_cells : IsCycle p (complex_on p outer) k f
    cycle_of_cells = record {
      chain = record {
        on = λ s e. f_by s (λ i l t. on i (false_from_ne_true (part i) (λ b. both_ways (outer s) e (ap outer (sym t) ∙ (part_parts i b).1))));
        of_degree = λ s d. f_by s (λ i l t. of i (λ w. d (ap dimension_of (sym t) ∙ sym (degree_at p cells K R.complex i l) ∙ w)));
      };
      closed = λ s e. let i = numbered s e in
          let b = part_from i.0 i.1 (ap outer i.2 ∙ e) in
          subst (λ (t : List Factor). Same p (boundary_at p t (restriction_to outer f)) 0) i.2 (same_trans (same_sym (sums z f on (λ j w. exact p (sym (f_at j (part_parts j w).0))) i.0 b)) (cycle i.0));
    }

    null : IsNull p (complex_on p outer) k f
    null = movable_cells p dead q (omega arith) (closed (a ++ cubes)) movable.acyclic k f cycle_of_cells

    abbrev filling : ℕ → ℕ
    filling i = cond (part i) (null.filling (to i)) 0

    filling_on : IsOnPart p part filling
    filling_on i e = exact p (ap (λ b. cond b (null.filling (to i)) 0) e)

    fills : (g : ℕ) → Same p (z g) (boundary_by n E filling g)
    fills g = ⊎_elim
        (λ b. let w = part_parts g b in same_trans (exact p (sym (f_at g w.0))) (same_trans (null.fills (to g) w.1)
        (same_sym (sums filling null.filling filling_on (λ i e. exact p (ap (λ v. cond v (null.filling (to i)) 0) e)) g b))))
        (λ b. same_trans (on g b) (same_sym (total_none p n (λ h. filling h * E h g) (λ h l. ⊎_elim
        (λ c. same_trans (same-scale (filling h) (part_closed h g c b)) (exact p (omega arith)))
        (λ c. same_trans {b = 0 * E h g} (same-mul (filling_on h c) (same_refl p (E h g))) (exact p (omega arith)))
        (cases_Bool (part h))))))
        (cases_Bool (part g))

  part_acyclic : IsAcyclicPart p n (slice_index K.degrees) E part
  part_acyclic k z on of cycle = (filling k z on of cycle, filling_on k z on of cycle, fills k z on of cycle)

  module _ (inside : AreWithin part more) (done : (h g : ℕ) → part h ≡ true → part g ≡ true → Same p (left_of p K (ss ++ more) h g) 0) where
    all_taken : (g : ℕ) → part g ≡ true → ¬ IsUnpaired (ss ++ more) g
    all_taken = acyclic_parts p K ss more part two complex steps part_closed inside (λ g e. omega (arith, (part_parts g e).0, R.complex.count)) part_acyclic done

    restricts : LeaveRestrictions p K (ss ++ more)
    restricts = steps_within p K ss more part r part_closed inside all_taken

    takes : TakeFaces cells (cubes ++ q ∷ []) (ss ++ more)
    takes i l = (
      λ u.
          let old = (taken i l).0 (unpaired_parts ss more i u).0 in
          let none : is_face q (to i) ≡ false = false_from_ne_true (is_face q (to i)) (λ f. all_taken i (part_from i l (outer_from (to i) (face_true q (to i) f) (dead_listed i l ∙ old))) u) in
          one_more cubes q (to i) ∙ ap (λ b. b || is_face q (to i)) old ∙ none,
      λ e.
          let w = or_parts_both (is_cell_of cubes (to i)) (is_face q (to i)) (sym (one_more cubes q (to i)) ∙ e) in
          unpaired_both ss more i ((taken i l).1 w.0) (outside_unpaired part more i inside (false_from_ne_true (part i) (λ b. both_ways (is_face q (to i)) w.1 (face_from q (to i) (outer_parts (to i) (part_parts i b).1).0)))),
    )
      where
        or_parts_both : (u v : Bool) → (u || v) ≡ false → (u ≡ false) × (v ≡ false)
        or_parts_both true v e = absurd (true≢false e)
        or_parts_both false v e = (refl, e)

pub moves : MovesLeaveRestrictions
moves p x a cells cubes K ss more q two R member movable r taken steps inside done = (
  restricts p x a cells cubes K ss more q two R member movable r taken steps inside done,
  takes p x a cells cubes K ss more q two R member movable r taken steps inside done,
)
