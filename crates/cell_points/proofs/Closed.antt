-- The cells of places closed along the first axes, and along all of them: all faces.
use Rattle.std.proofs.Common.{◌≡◌, ℕ, suc, ◌+◌, ◌<◌, ◌≤◌, inl, inr, ⊎_elim, refl, sym, ap, ◌∙◌, subst, arith, List, [], ◌∷◌, length, Bool, true, false, map}
use Rattle.std.specs.Prelude.{ℤ, ◌||◌}
use Rattle.std.specs.List.{list_all, AllByRecursion}
use Rattle.std.specs.Cmp.{both_ways}
use Rattle.std.proofs.lemmas.Bool.{or_cases, true≢false}
use Rattle.elem_cubes.specs.Cells.{Factor, is_file_factor}
use Rattle.elem_cubes.specs.Faces.{IsFace, is_face}
use Rattle.elem_cubes.specs.Order.{cell_cmp}
use Rattle.elem_cubes.proofs.FaceLemmas.{face-Decides}
use Rattle.elem_cubes.proofs.Members.{In}
use Rattle.elem_cubes.proofs.Ranges.{faces_stay_in_range}
use Rattle.std.specs.List.Sorted.{IsStrictlySortedBy}
use Rattle.elem_cubes.specs.OrderLemmas.{cell_cmp_total}
use Rattle.cube_sets.specs.Sorted.{has, union_of}
use Rattle.cube_sets.proofs.Merging.{has-union, sorted-union}
use Rattle.cube_sets.proofs.Steps.{length-union}
use Rattle.cube_sets.specs.Sets.{is_member}
use Rattle.cube_sets.specs.Closures.{is_cell_of, cells_of}
use Rattle.cube_sets.proofs.Covering.{cells_are_faces, member_parts}
use Rattle.cube_sets.proofs.SameSets.{same_sets}
use Rattle.cube_sets.proofs.Spreads.{has_In, In_has, In_passes}
use Rattle.cell_points.specs.Places.{cells_of_places, ArePlaces, CanRise, holds_at, lowered, raised_all}
use Rattle.cell_points.specs.declared.place.Place.{Place}
use Rattle.cell_points.proofs.Spreading.{IsSpread, spread_step, spread_back, spread_face, face_spread}
use Rattle.cell_points.proofs.Views.{sorted_cells}
use Rattle.cell_points.proofs.Closing.{can_rise, reaches, step_from, step_to}

-- the places have the cells that come from those of the start along so many axes
pub record IsClosedTo (n : ℕ) (start places : List Place) : Type 0 where
  pub are : ArePlaces places
  pub from : (q : List Factor) → In (cells_of_places places) q → (s : List Factor) × In (cells_of_places start) s × IsSpread n s q
  pub to : (s q : List Factor) → In (cells_of_places start) s → IsSpread n s q → In (cells_of_places places) q

pub closed_begins : (start : List Place) → ArePlaces start → IsClosedTo 0 start start
closed_begins start are = record {
  are = are;
  from = λ q m. (q, m, refl);
  to = λ s q m e. subst (λ (u : List Factor). In (cells_of_places start) u) e m;
}

absorbed : (a b : Bool) → (b ≡ true → a ≡ true) → (a || b) ≡ a
absorbed true b h = refl
absorbed false true h = sym (h refl)
absorbed false false h = refl

-- a sorted list with no other cells than a second one is no longer
fewer_cells : (xs ys : List (List Factor)) → IsStrictlySortedBy cell_cmp xs → IsStrictlySortedBy cell_cmp ys → ((q : List Factor) → has cell_cmp xs q ≡ true → has cell_cmp ys q ≡ true) → length xs ≤ length ys
fewer_cells xs ys s t h =
    let e : union_of cell_cmp ys xs ≡ ys = same_sets (union_of cell_cmp ys xs) ys (sorted-union cell_cmp cell_cmp_total ys xs s) t
    (λ q. has-union cell_cmp cell_cmp_total ys xs q ∙ absorbed (has cell_cmp ys q) (has cell_cmp xs q) (h q)) in
    let l = length-union cell_cmp ys xs in
    omega (arith, ap length e)

module _ (axes : ℕ) (start : List Place) (few : axes ≤ 4) (alike : list_all (is_member axes) (cells_of_places start) ≡ true) where
  range : (n : ℕ) (places : List Place) → IsClosedTo n start places → (q : List Factor) → In (cells_of_places places) q → list_all is_file_factor q ≡ true
  range n places h q m =
      let w = h.from q m in
      let p = member_parts axes w.0 (In_passes (is_member axes) (cells_of_places start) w.0 alike w.1) in
      faces_stay_in_range.files w.0 q (spread_face n w.0 q w.2) p.1

  pub rising : (n : ℕ) (places : List Place) → n < axes → IsClosedTo n start places → AllByRecursion (CanRise n) places
  rising n places l h = can_rise n (omega arith) places h.are (range n places h)

  pub closed_more : (n : ℕ) (places all : List Place) → n < axes → IsClosedTo n start places → ArePlaces all
      → ((c : List ℤ) (r : ℕ) → holds_at all c r ≡ (holds_at (map (lowered n) places) c r || holds_at (raised_all n places) c r)) → IsClosedTo (n + 1) start all
  closed_more n places all l h are kept =
      let k : n < 4 = omega arith in
      let reach = reaches n places (rising n places l h) in
      let e : suc n ≡ n + 1 = omega arith in
      subst (λ (m : ℕ). IsClosedTo m start all) e (record {
        are = are;
        from = λ q m.
            let t = step_from n k places all h.are reach are kept q m in
            let w = h.from t.0 t.1 in
            (w.0, w.1, spread_step n w.0 t.0 q w.2 t.2);
        to = λ s q m d.
            let b = spread_back n s q d in
            step_to n k places all h.are reach are kept b.0 q (h.to s b.0 m b.1) b.2;
      })

  or_either : (a b : Bool) → b ≡ true → (a || b) ≡ true
  or_either true b h = refl
  or_either false b h = h

  cell_from : (x : List (List Factor)) (s q : List Factor) → In x s → IsFace s q → is_cell_of x q ≡ true
  cell_from [] s q m f = absurd m
  cell_from (y ∷ x) s q (inl e) f = ap (λ b. b || is_cell_of x q) ((face-Decides y q).1 (subst (λ (z : List Factor). IsFace z q) (sym e) f))
  cell_from (y ∷ x) s q (inr m) f = or_either (is_face y q) (is_cell_of x q) (cell_from x s q m f)

  cell_to : (x : List (List Factor)) (q : List Factor) → is_cell_of x q ≡ true → (s : List Factor) × In x s × IsFace s q
  cell_to [] q h = absurd (true≢false (sym h))
  cell_to (y ∷ x) q h = ⊎_elim
      (λ e. (y, inl refl, (face-Decides y q).0 e))
      (λ e. let w = cell_to x q e in (w.0, inr w.1, w.2))
      (or_cases (is_face y q) (is_cell_of x q) h)

  pub closed_all : (places : List Place) → IsClosedTo axes start places → cells_of_places places ≡ cells_of (cells_of_places start)
  closed_all places h = same_sets (cells_of_places places) (cells_of (cells_of_places start)) (sorted_cells places h.are) (cells_are_faces.sorted (cells_of_places start))
      (λ q. both_ways (has cell_cmp (cells_of_places places) q) (is_cell_of (cells_of_places start) q)
      (λ t. let w = h.from q (has_In (cells_of_places places) q t) in cell_from (cells_of_places start) w.0 q w.1 (spread_face axes w.0 q w.2))
      (λ t.
      let w = cell_to (cells_of_places start) q t in
      let l : length w.0 ≡ axes = (member_parts axes w.0 (In_passes (is_member axes) (cells_of_places start) w.0 alike w.1)).0 in
      In_has (cells_of_places places) q (h.to w.0 q w.1 (face_spread axes w.0 q (omega arith) w.2)))
      ∙ sym (cells_are_faces.faces (cells_of_places start) q))

  -- before the last axis there are no more cells than faces
  pub closed_fewer : (n : ℕ) (places : List Place) → IsClosedTo n start places → length (cells_of_places places) ≤ length (cells_of (cells_of_places start))
  closed_fewer n places h = fewer_cells (cells_of_places places) (cells_of (cells_of_places start)) (sorted_cells places h.are) (cells_are_faces.sorted (cells_of_places start))
      (λ q t. let w = h.from q (has_In (cells_of_places places) q t) in cells_are_faces.faces (cells_of_places start) q ∙ cell_from (cells_of_places start) w.0 q w.1 (spread_face n w.0 q w.2))
