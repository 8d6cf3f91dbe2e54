-- The faces of a cell are acyclic; and where those that a closed set has are, too, the others carry no homology
use Rattle.std.proofs.Common.{◌≡◌, ◌≢◌, ℕ, ◌+◌, ◌-◌, ◌*◌, ◌≤◌, ◌⊎◌, inl, inr, refl, sym, ap, ◌∙◌, arith, ⊎_elim, List, [], ◌∷◌, length, Bool, true, false, cond, ◌&&◌, subst}
use Rattle.std.specs.Prelude.{ℤ, pos, ◌+ℤ◌, not, map}
use Rattle.std.specs.List.{Contains, filter, flat_map}
use Rattle.std.specs.Ordering.{int_eq}
use Rattle.std.proofs.lemmas.Bool.{cases_Bool, cases_eq, both_ways, and_parts, and_from, not-true, false_from_ne_true}
use Rattle.std.proofs.lemmas.Int.{ints}
use Rattle.field_mod.specs.Modular.{Same}
use Rattle.field_mod.proofs.Modular.{same_by, same_refl, same_sym, same_trans, same-add, same-scale, neg_cancel}
use Rattle.elem_cubes.specs.Cells.{Factor, point, interval, dimension_of, same_cell}
use Rattle.elem_cubes.specs.Faces.{IsFace, IsFacet, is_face, parts_of, closure_of}
use Rattle.elem_cubes.specs.Boundary.{boundary_at}
use Rattle.elem_cubes.specs.Order.{cell_cmp}
use Rattle.std.proofs.lemmas.Map.Made.{is_member-filter}
use Rattle.elem_cubes.specs.OrderLemmas.{int_same, int_refl, cell_cases, same_cell_equivalence}
use Rattle.elem_cubes.proofs.Modular.{exact}
use Rattle.elem_cubes.proofs.FaceLemmas.{face_refl, face_trans}
use Rattle.elem_cubes.proofs.Listing.{closures_are_faces}
use Rattle.elem_cubes.proofs.Boundaries.{boundary-add, boundary-scale, boundary-none, boundary_twice}
use Rattle.chains.specs.Homology.{IsChain, IsCycle, IsNull}
use Rattle.chains.proofs.Systems.{null_of_boundary}
use Rattle.cube_sets.specs.Sorted.{has}
use Rattle.cell_complex.specs.RelativeComplex.{restriction_to, complex_on, IsClosed, IsClosedList}
use Rattle.cell_complex.specs.Boundaries.{unit_at}
use Rattle.cell_complex.proofs.Cofaces.{boundary_same}
use Rattle.cell_complex.proofs.Deciding.{cell_true, has_is, has_from, from_has, face_true, face_from}
use Rattle.cell_complex.proofs.Squares.{restriction-on, restriction-off, operator}
use Rattle.cell_complex.specs.AcyclicLists.{complex_of_cells, augmentation_over, IsAcyclicList}
use Rattle.cell_complex.specs.Growth.{cells_in}
use Rattle.cell_complex.specs.Laws.{CellsAreAcyclic, MovableCellsAreNull}
use Rattle.cell_complex.proofs.Alike.{lists_and_sets, cells_in_once}
use Rattle.cell_complex.proofs.Drawing.{augmentation_on, IsChainIn, closed_chains, augmentation-none, boundary_augmentation, lowest, lowest_face}

-- ---- the cells of a filtered closure

pub filtered : (test : List Factor → Bool) (cells : List (List Factor)) (s : List Factor) → has cell_cmp (filter test cells) s ≡ (has cell_cmp cells s && test s)
filtered test cells s = has_is (filter test cells) s ∙ is_member-filter same_cell_equivalence test s (λ x e. ap test (cell_true s x e)) cells ∙ ap (λ b. b && test s) (sym (has_is cells s))

pub closure-face : (q s : List Factor) → has cell_cmp (closure_of q) s ≡ true → IsFace q s
closure-face q s e = (closures_are_faces.faces q s).0 (from_has (closure_of q) s (sym (has_is (closure_of q) s) ∙ e))

pub face-closure : (q s : List Factor) → IsFace q s → has cell_cmp (closure_of q) s ≡ true
face-closure q s f = has_is (closure_of q) s ∙ has_from (closure_of q) s ((closures_are_faces.faces q s).1 f)

pub cells_in-face : (test : List Factor → Bool) (q s : List Factor) → has cell_cmp (cells_in test q) s ≡ true → IsFace q s × (test s ≡ true)
cells_in-face test q s e =
    let w = and_parts (has cell_cmp (closure_of q) s) (test s) (sym (filtered test (closure_of q) s) ∙ e) in
    (closure-face q s w.0, w.1)

pub face-cells_in : (test : List Factor → Bool) (q s : List Factor) → IsFace q s → test s ≡ true → has cell_cmp (cells_in test q) s ≡ true
face-cells_in test q s f e = filtered test (closure_of q) s ∙ and_from (has cell_cmp (closure_of q) s) (test s) (face-closure q s f) e

-- ---- augmentations over lists

over_kept : (p : ℕ) (test : List Factor → Bool) (cells : List (List Factor)) (y : List Factor → ℕ) → ((s : List Factor) → test s ≡ false → Same p (y s) 0) → Same p (augmentation_over (filter test cells) y) (augmentation_over cells y)
over_kept p test [] y h = same_refl p 0
over_kept p test (s ∷ cells) y h =
    let rest = over_kept p test cells y h in
    elim (test s) as (λ b. test s ≡ b → Same p (augmentation_over (cond b (s ∷ filter test cells) (filter test cells)) y) (y s + augmentation_over cells y)) [
      | true ↦ λ e. same-add (same_refl p (y s)) rest
      | false ↦ λ e. same_trans {b = 0 + augmentation_over (filter test cells) y} (exact p (omega arith)) (same-add (same_sym (h s e)) rest)
    ] refl

over_points : (l : ℤ) (cells : List (List Factor)) (y : List Factor → ℕ) → augmentation_over (flat_map (λ rs. map (λ r. r ∷ rs) (parts_of (point l))) cells) y ≡ augmentation_over cells (λ ts. y (point l ∷ ts))
over_points l [] y = refl
over_points l (s ∷ cells) y = ap (λ v. y (point l ∷ s) + v) (over_points l cells y)

over_intervals : (p : ℕ) (l : ℤ) (cells : List (List Factor)) (y : List Factor → ℕ) → ((s : List Factor) → Same p (y (interval l ∷ s)) 0)
    → Same p (augmentation_over (flat_map (λ rs. map (λ r. r ∷ rs) (parts_of (interval l))) cells) y) (augmentation_over cells (λ ts. y (point l ∷ ts) + y (point (l +ℤ pos 1) ∷ ts)))
over_intervals p l [] y h = same_refl p 0
over_intervals p l (s ∷ cells) y h =
    let a = y (point l ∷ s) in
    let b = y (point (l +ℤ pos 1) ∷ s) in
    let rest = augmentation_over (flat_map (λ rs. map (λ r. r ∷ rs) (parts_of (interval l))) cells) y in
    same_trans {b = a + (0 + (b + rest))} (same-add (same_refl p a) (same-add (h s) (same_refl p (b + rest))))
    (same_trans (exact p (omega arith)) (same-add (same_refl p (a + b)) (over_intervals p l cells y h)))

-- over all faces of a cell it is the sum over the vertices
over_faces : (p : ℕ) (q : List Factor) (y : List Factor → ℕ) → ((s : List Factor) → dimension_of s ≢ 0 → Same p (y s) 0) → Same p (augmentation_over (closure_of q) y) (augmentation_on q y)
over_faces p [] y h = exact p (omega arith)
over_faces p (point l ∷ qs) y h = same_trans (exact p (over_points l (closure_of qs) y)) (over_faces p qs (λ ts. y (point l ∷ ts)) (λ s d. h (point l ∷ s) d))
over_faces p (interval l ∷ qs) y h = same_trans (over_intervals p l (closure_of qs) y (λ s. h (interval l ∷ s) (λ e. absurd (omega arith))))
    (over_faces p qs (λ ts. y (point l ∷ ts) + y (point (l +ℤ pos 1) ∷ ts)) (λ s d. same_trans (same-add (h (point l ∷ s) d) (h (point (l +ℤ pos 1) ∷ s) d)) (exact p refl)))

-- ---- augmentations over the vertices of a cell

none_at_vertices : (p : ℕ) (q : List Factor) (y : List Factor → ℕ) → ((s : List Factor) → dimension_of s ≡ 0 → Same p (y s) 0) → Same p (augmentation_on q y) 0
none_at_vertices p [] y h = h [] refl
none_at_vertices p (point l ∷ qs) y h = none_at_vertices p qs (λ ts. y (point l ∷ ts)) (λ s d. h (point l ∷ s) d)
none_at_vertices p (interval l ∷ qs) y h = none_at_vertices p qs (λ ts. y (point l ∷ ts) + y (point (l +ℤ pos 1) ∷ ts)) (λ s d. same_trans (same-add (h (point l ∷ s) d) (h (point (l +ℤ pos 1) ∷ s) d)) (exact p refl))

augmentation-sum : (q : List Factor) (a : ℕ) (c d : List Factor → ℕ) → augmentation_on q (λ s. c s + a * d s) ≡ augmentation_on q c + a * augmentation_on q d
augmentation-sum [] a c d = refl
augmentation-sum (point l ∷ qs) a c d = augmentation-sum qs a (λ ts. c (point l ∷ ts)) (λ ts. d (point l ∷ ts))
augmentation-sum (interval l ∷ qs) a c d = alike qs _ _ (λ ts. omega arith) ∙ augmentation-sum qs a (λ ts. c (point l ∷ ts) + c (point (l +ℤ pos 1) ∷ ts)) (λ ts. d (point l ∷ ts) + d (point (l +ℤ pos 1) ∷ ts))
  where
    alike : (q : List Factor) (f g : List Factor → ℕ) → ((s : List Factor) → f s ≡ g s) → augmentation_on q f ≡ augmentation_on q g
    alike q f g h = ap (augmentation_on q) (λ i s. h s i)

augmentation-scale : (q : List Factor) (a : ℕ) (d : List Factor → ℕ) → augmentation_on q (λ s. a * d s) ≡ a * augmentation_on q d
augmentation-scale q a d = ap (augmentation_on q) (λ i s. plus s i) ∙ augmentation-sum q a (λ s. 0) d ∙ ap (λ u. u + a * augmentation_on q d) (augmentation-none q) ∙ omega arith
  where
    plus : (s : List Factor) → a * d s ≡ 0 + a * d s
    plus s = omega arith

-- the chain that is 1 at one vertex has augmentation 1
unit_augmentation : (q v : List Factor) → IsFace q v → dimension_of v ≡ 0 → augmentation_on q (unit_at v) ≡ 1
unit_augmentation [] [] f d = refl
unit_augmentation [] (r ∷ rs) f d = absurd f
unit_augmentation (q ∷ qs) [] f d = absurd f
unit_augmentation (point l ∷ qs) (interval m ∷ vs) f d = absurd f.0
unit_augmentation (interval l ∷ qs) (interval m ∷ vs) f d = absurd (omega arith)
unit_augmentation (point l ∷ qs) (point m ∷ vs) f d = ap (augmentation_on qs) (λ i ts. one ts i) ∙ unit_augmentation qs vs f.1 d
  where
    one : (ts : List Factor) → unit_at (point m ∷ vs) (point l ∷ ts) ≡ unit_at vs ts
    one ts = ap (λ b. cond (b && same_cell ts vs) 1 0) (ap (λ k. int_eq l k) f.0 ∙ int_refl l)
unit_augmentation (interval l ∷ qs) (point m ∷ vs) f d = ap (augmentation_on qs) (λ i ts. one ts i) ∙ unit_augmentation qs vs f.1 d
  where
    next_apart : l +ℤ pos 1 ≢ l
    next_apart e = absurd (omega (arith, ints))

    differ : (k j : ℤ) → k ≢ j → int_eq k j ≡ false
    differ k j n = ⊎_elim (λ e. absurd (n e)) (λ e. e) (int_same k j)

    one : (ts : List Factor) → unit_at (point m ∷ vs) (point l ∷ ts) + unit_at (point m ∷ vs) (point (l +ℤ pos 1) ∷ ts) ≡ unit_at vs ts
    one ts = ⊎_elim
        (λ e. ap (λ b. cond (b && same_cell ts vs) 1 0 + cond (int_eq (l +ℤ pos 1) m && same_cell ts vs) 1 0) (ap (λ k. int_eq l k) e ∙ int_refl l) ∙ ap (λ b. cond (same_cell ts vs) 1 0 + cond (b && same_cell ts vs) 1 0) (differ (l +ℤ pos 1) m (λ x. next_apart (x ∙ e))) ∙ omega arith)
        (λ e. ap (λ b. cond (b && same_cell ts vs) 1 0 + cond (int_eq (l +ℤ pos 1) m && same_cell ts vs) 1 0) (differ l m (λ x. next_apart (sym e ∙ sym x))) ∙ ap (λ b. 0 + cond (b && same_cell ts vs) 1 0) (ap (λ k. int_eq (l +ℤ pos 1) k) e ∙ int_refl (l +ℤ pos 1)) ∙ omega arith)
        f.0

lowest-dimension : (q : List Factor) → dimension_of (lowest q) ≡ 0
lowest-dimension [] = refl
lowest-dimension (point l ∷ qs) = lowest-dimension qs
lowest-dimension (interval l ∷ qs) = lowest-dimension qs

-- ---- chains in a cell

zero_boundary : (p : ℕ) (s : List Factor) (c : List Factor → ℕ) → ((t : List Factor) → IsFacet t s → Same p (c t) 0) → Same p (boundary_at p s c) 0
zero_boundary p s c h = same_trans (boundary_same p s c (λ t. 0) h) (exact p (boundary-none p s))

-- a chain in q has no boundary off the faces of q
outside_boundary : (p : ℕ) (q s : List Factor) (c : List Factor → ℕ) → IsChainIn p q c → ¬ IsFace q s → Same p (boundary_at p s c) 0
outside_boundary p q s c on n = zero_boundary p s c (λ t f. on t (λ k. n (face_trans q t s k f.0)))

module _ (p : ℕ) (belongs : List Factor → Bool) (c : List Factor → ℕ) (off : (s : List Factor) → belongs s ≡ false → Same p (c s) 0) where
  -- a chain that has nothing off the complex is its own restriction
  restricted : (s : List Factor) → Same p (restriction_to belongs c s) (c s)
  restricted s = ⊎_elim (λ e. exact p (restriction-on belongs c s e)) (λ e. same_trans (exact p (restriction-off belongs c s e)) (same_sym (off s e))) (cases_Bool (belongs s))

  restricted_boundary : (s : List Factor) → Same p (boundary_at p s (restriction_to belongs c)) (boundary_at p s c)
  restricted_boundary s = boundary_same p s (restriction_to belongs c) c (λ t f. restricted t)

module _ (p : ℕ) (q : List Factor) (positive : 1 ≤ p) where
  abbrev all : List Factor → Bool
  all = has cell_cmp (closure_of q)

  all_face : (s : List Factor) → all s ≡ true → IsFace q s
  all_face = closure-face q

  face_all : (s : List Factor) → IsFace q s → all s ≡ true
  face_all = face-closure q

  in_cell : (c : List Factor → ℕ) → ((s : List Factor) → all s ≡ false → Same p (c s) 0) → IsChainIn p q c
  in_cell c off s n = off s (false_from_ne_true (all s) (λ e. n (all_face s e)))

  in_all : (c : List Factor → ℕ) → IsChainIn p q c → (s : List Factor) → all s ≡ false → Same p (c s) 0
  in_all c on s e = on s (λ f. both_ways (all s) e (face_all s f))

  -- a closed chain of augmentation 0 is null
  null_in_cell : (k : ℕ) (c : List Factor → ℕ) → IsChain p (complex_of_cells p (closure_of q)) k c → ((s : List Factor) → Same p (boundary_at p s c) 0) → Same p (augmentation_on q c) 0 → IsNull p (complex_of_cells p (closure_of q)) k c
  null_in_cell k c chain closed balanced =
      let d = closed_chains p q c positive (in_cell c chain.on) closed balanced in
      null_of_boundary p k (complex_of_cells p (closure_of q)) c d.0 (operator p all) chain
      (λ s e. same_trans (d.2 s (all_face s e)) (same_sym (restricted_boundary p all d.0 (in_all d.0 d.1) s)))

  acyclic_cell : IsAcyclicList p (closure_of q)
  acyclic_cell = record {
    some = λ e. let w = (closures_are_faces.faces q q).1 (face_refl q) in let l = ap length e in absurd (omega (arith, w.1));
    points = λ c chain balanced. null_in_cell 0 c chain
        (λ s. zero_boundary p s c (λ t f. chain.of_degree t (λ z. let d = f.1 in absurd (omega arith))))
        (same_trans (same_sym (over_faces p q c (λ s d. chain.of_degree s d))) balanced);
    cycles = λ k z high cycle. null_in_cell k z cycle.chain
        (λ s. ⊎_elim
        (λ e. same_trans (same_sym (restricted_boundary p all z cycle.chain.on s)) (cycle.closed s e))
        (λ e. outside_boundary p q s z (in_cell z cycle.chain.on) (λ f. both_ways (all s) e (face_all s f)))
        (cases_Bool (all s)))
        (none_at_vertices p q z (λ s d. cycle.chain.of_degree s (λ e. absurd (omega arith))));
  }

closure_closed : (q : List Factor) → IsClosedList (closure_of q)
closure_closed q r s f w = closures_are_faces.closed q r s w f

pub cells_are_acyclic : CellsAreAcyclic
cells_are_acyclic p q positive = (lists_and_sets p (closure_of q) (closure_closed q) (closures_are_faces.once q [])).1 (acyclic_cell p q positive)

-- ---- the faces of a cell that a closed set has not

module _ (p : ℕ) (test : List Factor → Bool) (q : List Factor) (positive : 1 ≤ p) (closed : IsClosed test) (acyclic : IsAcyclicList p (cells_in test q)) where
  abbrev inner : List Factor → Bool
  inner = has cell_cmp (cells_in test q)

  abbrev outer : List Factor → Bool
  outer s = is_face q s && not (test s)

  outer_parts : (s : List Factor) → outer s ≡ true → IsFace q s × (test s ≡ false)
  outer_parts s e = let w = and_parts (is_face q s) (not (test s)) e in (face_true q s w.0, not-true (test s) w.1)

  outer_from : (s : List Factor) → IsFace q s → test s ≡ false → outer s ≡ true
  outer_from s f e = and_from (is_face q s) (not (test s)) (face_from q s f) (ap not e)

  -- a face of q is inner or outer
  outer_or : (s : List Factor) → inner s ≡ false → (¬ IsFace q s) ⊎ (outer s ≡ true)
  outer_or s e = ⊎_elim
      (λ t. inl (λ f. both_ways (inner s) e (face-cells_in test q s f t)))
      (λ t. ⊎_elim (λ f. inr (outer_from s (face_true q s f) t)) (λ n. inl (λ f. both_ways (is_face q s) n (face_from q s f))) (cases_Bool (is_face q s)))
      (cases_Bool (test s))

  outside_outer : (s : List Factor) → ¬ IsFace q s → outer s ≡ false
  outside_outer s n = false_from_ne_true (outer s) (λ e. n (outer_parts s e).0)

  tested_outer : (s : List Factor) → test s ≡ true → outer s ≡ false
  tested_outer s t = false_from_ne_true (outer s) (λ e. both_ways (test s) (outer_parts s e).1 t)

  outside_inner : (s : List Factor) → ¬ IsFace q s → inner s ≡ false
  outside_inner s n = false_from_ne_true (inner s) (λ e. n (cells_in-face test q s e).0)

  -- a chain of inner cells has no boundary off the inner cells
  inner_boundary : (m : List Factor → ℕ) → ((s : List Factor) → inner s ≡ false → Same p (m s) 0) → (s : List Factor) → inner s ≡ false → Same p (boundary_at p s m) 0
  inner_boundary m on s e = zero_boundary p s m (λ t f. on t (false_from_ne_true (inner t) (λ i.
      let w = cells_in-face test q t i in both_ways (inner s) e (face-cells_in test q s (face_trans q t s w.0 f.0) (closed t s f.0 w.1)))))

  module _ (k : ℕ) (z : List Factor → ℕ) (cycle : IsCycle p (complex_on p outer) k z) where
    z_in : IsChainIn p q z
    z_in s n = cycle.chain.on s (outside_outer s n)

    z_closed : (s : List Factor) → outer s ≡ true → Same p (boundary_at p s z) 0
    z_closed s e = same_trans (same_sym (restricted_boundary p outer z cycle.chain.on s)) (cycle.closed s e)

    -- z is null where it is, off the inner cells, a closed chain in q of augmentation 0
    finish : (x : List Factor → ℕ) → IsChainIn p q x → ((s : List Factor) → outer s ≡ true → Same p (x s) (z s)) → ((s : List Factor) → Same p (boundary_at p s x) 0) → Same p (augmentation_on q x) 0 → IsNull p (complex_on p outer) k z
    finish x x_in same none balanced =
        let d = closed_chains p q x positive x_in none balanced in
        null_of_boundary p k (complex_on p outer) z d.0 (operator p outer) cycle.chain
        (λ s e. same_trans (same_sym (same s e)) (same_trans (d.2 s (outer_parts s e).0) (boundary_same p s d.0 (restriction_to outer d.0) (λ t f. ⊎_elim
        (λ o. exact p (sym (restriction-on outer d.0 t o)))
        (λ o. same_trans (d.1 t (λ i. both_ways (outer t) o (outer_from t i (false_from_ne_true (test t) (λ j. both_ways (test s) (outer_parts s e).1 (closed t s f.0 j)))))) (exact p (sym (restriction-off outer d.0 t o))))
        (cases_Bool (outer t))))))

    less : (x y : ℕ) → Same p y 0 → Same p (x + (p - 1) * y) x
    less x y e = same_trans (same-add (same_refl p x) (same-scale (p - 1) e)) (exact p (omega arith))

    cancel : (x y : ℕ) → Same p y x → Same p (x + (p - 1) * y) 0
    cancel x y e = same_trans (same-add (same_refl p x) (same-scale (p - 1) e)) (same_by p 0 x _ _ (omega (arith, neg_cancel p x positive)))

    -- where the boundary of z is that of a chain m of inner cells, z less m is closed
    by_filling : (m : List Factor → ℕ) → ((s : List Factor) → inner s ≡ false → Same p (m s) 0) → ((s : List Factor) → inner s ≡ true → Same p (boundary_at p s z) (boundary_at p s m))
        → Same p (augmentation_on q (λ s. z s + (p - 1) * m s)) 0 → IsNull p (complex_on p outer) k z
    by_filling m on fills balanced = finish (λ s. z s + (p - 1) * m s)
        (λ s n. same_trans (less (z s) (m s) (on s (outside_inner s n))) (z_in s n))
        (λ s e. less (z s) (m s) (on s (false_from_ne_true (inner s) (λ i. both_ways (outer s) (tested_outer s (cells_in-face test q s i).1) e))))
        (λ s.
        let split : boundary_at p s (λ t. z t + (p - 1) * m t) ≡ boundary_at p s z + (p - 1) * boundary_at p s m = boundary-add p s z (λ t. (p - 1) * m t) ∙ ap (λ v. boundary_at p s z + v) (boundary-scale p s (p - 1) m) in
        same_trans (exact p split) (⊎_elim
        (λ i. cancel (boundary_at p s z) (boundary_at p s m) (same_sym (fills s i)))
        (λ i. same_trans (less (boundary_at p s z) (boundary_at p s m) (inner_boundary m on s i)) (⊎_elim (λ n. outside_boundary p q s z z_in n) (λ o. z_closed s o) (outer_or s i)))
        (cases_Bool (inner s))))
        balanced

    -- in degree 0 a vertex of the inner cells balances z
    null_points : k ≡ 0 → IsNull p (complex_on p outer) k z
    null_points zero_degree =
        let some = first (cells_in test q) acyclic.some in
        let c = some.0 in
        let w = cells_in-face test q c (has_is (cells_in test q) c ∙ has_from (cells_in test q) c some.1) in
        let v = lowest c in
        let face_v : IsFace q v = face_trans q c v w.0 (lowest_face c) in
        let inner_v : inner v ≡ true = face-cells_in test q v face_v (closed c v (lowest_face c) w.1) in
        let t = augmentation_on q z in
        let m : List Factor → ℕ = λ s. t * unit_at v s in
        let none_at : (s : List Factor) → s ≢ v → Same p (m s) 0 = λ s n. exact p (⊎_elim (λ e. absurd (n e)) (λ e. ap (λ b. t * cond b 1 0) e ∙ omega arith) (cell_cases s v)) in
        let flat : (s r : List Factor) → IsFacet r s → r ≢ v = λ s r f e. let a = ap dimension_of e in let b = f.1 in let d = lowest-dimension c in absurd (omega arith) in
        by_filling m
        (λ s i. none_at s (λ e. both_ways (inner s) i (ap inner e ∙ inner_v)))
        (λ s i. same_trans (zero_boundary p s z (λ r f. cycle.chain.of_degree r (λ e. let d = f.1 in absurd (omega arith)))) (same_sym (zero_boundary p s m (λ r f. none_at r (flat s r f)))))
        (same_by p 0 t _ _ (
        let a = augmentation-sum q (p - 1) z m in
        let b : augmentation_on q m ≡ t * augmentation_on q (unit_at v) = augmentation-scale q t (unit_at v) in
        let d : t * augmentation_on q (unit_at v) ≡ t * 1 = ap (λ u. t * u) (unit_augmentation q v face_v (lowest-dimension c)) in
        let e = ap (λ u. (p - 1) * u) (b ∙ d) in
        let f = neg_cancel p t positive in
        omega arith))
      where
        first : (cells : List (List Factor)) → cells ≢ [] → (c : List Factor) × Contains cells c
        first [] n = absurd (n refl)
        first (c ∷ cells) n = (c, (0, omega arith, refl))

    -- the boundary of z, a cycle of inner cells
    boundary_chain : (j : ℕ) → k ≡ j + 1 → IsChain p (complex_of_cells p (cells_in test q)) j (λ s. boundary_at p s z)
    boundary_chain j e = record {
      on = λ s i. ⊎_elim (λ n. outside_boundary p q s z z_in n) (λ o. z_closed s o) (outer_or s i);
      of_degree = λ s d. zero_boundary p s z (λ t f. cycle.chain.of_degree t (λ x. d (let y = f.1 in omega arith)));
    }

    null_cycles : (j : ℕ) → k ≡ j + 1 → IsNull p (complex_on p outer) k z
    null_cycles j e =
        let y : List Factor → ℕ = λ s. boundary_at p s z in
        let chain = boundary_chain j e in
        let null : IsNull p (complex_of_cells p (cells_in test q)) j y = ⊎_elim
        (λ zero_degree. subst (λ (i : ℕ). IsNull p (complex_of_cells p (cells_in test q)) i y) (sym zero_degree) (acyclic.points y (subst (λ (i : ℕ). IsChain p (complex_of_cells p (cells_in test q)) i y) zero_degree chain) (balanced zero_degree chain)))
        (λ high. acyclic.cycles j y (omega arith) (record { chain = chain; closed = λ s i. same_trans (restricted_boundary p inner y chain.on s) (boundary_twice p s z positive) }))
        (cases_eq j 0) in
        by_filling null.filling null.chain.on
        (λ s i. same_trans (null.fills s i) (restricted_boundary p inner null.filling null.chain.on s))
        (none_at_vertices p q (λ s. z s + (p - 1) * null.filling s) (λ s d. same_trans (less (z s) (null.filling s) (null.chain.of_degree s (λ x. absurd (omega arith)))) (cycle.chain.of_degree s (λ x. absurd (omega arith)))))
      where
        balanced : j ≡ 0 → IsChain p (complex_of_cells p (cells_in test q)) j (λ s. boundary_at p s z) → Same p (augmentation_over (cells_in test q) (λ s. boundary_at p s z)) 0
        balanced zero_degree chain = same_trans
            (over_kept p test (closure_of q) (λ s. boundary_at p s z) (λ s t. chain.on s (false_from_ne_true (inner s) (λ i. both_ways (test s) t (cells_in-face test q s i).1))))
            (same_trans (over_faces p q (λ s. boundary_at p s z) (λ s d. chain.of_degree s (λ x. d (x ∙ zero_degree)))) (boundary_augmentation p q z positive z_in))

    null_outer : IsNull p (complex_on p outer) k z
    null_outer = ⊎_elim null_points (λ n. null_cycles (k - 1) (omega arith)) (cases_eq k 0)

-- the cells of q that a closed set has are closed, and stand once each
pub cells_in_closed : (test : List Factor → Bool) (q : List Factor) → IsClosed test → IsClosedList (cells_in test q)
cells_in_closed test q closed r s f w =
    let e = cells_in-face test q r (has_is (cells_in test q) r ∙ has_from (cells_in test q) r w) in
    from_has (cells_in test q) s (sym (has_is (cells_in test q) s) ∙ face-cells_in test q s (face_trans q r s e.0 f) (closed r s f e.1))

pub movable_cells : MovableCellsAreNull
movable_cells p test q positive closed acyclic k z cycle =
    null_outer p test q positive closed ((lists_and_sets p (cells_in test q) (cells_in_closed test q closed) (cells_in_once test q)).0 acyclic) k z cycle
