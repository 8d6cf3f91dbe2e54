-- The faces of a cell that a test tells, and those that a log leaves, gathered face by face
use Rattle.std.proofs.Common.{◌≡◌, ℕ, zero, suc, ◌^◌, ◌<◌, ◌≤◌, inl, inr, refl, sym, ap, ◌∙◌, arith, ⊎_elim, List, [], ◌∷◌, ◌++◌, length, Bool, true, false, cond, append_assoc, Result, Ok, Err, IfOk}
use Rattle.std.specs.List.{Contains, filter, list_all}
use Rattle.std.specs.Cmp as cmp
use Rattle.std.proofs.lemmas.Bool.{cases_Bool}
use Rattle.std.proofs.lemmas.List.Folds.{list_any_at, Any-from_list_any}
use Rattle.elem_cubes.specs.declared.range.TheConstants.{MAX_EMBEDDING}
use Rattle.elem_cubes.specs.Cells.{Factor, dimension_of, is_file_factor}
use Rattle.elem_cubes.specs.Faces.{IsFace, is_face, closure_of}
use Rattle.elem_cubes.specs.Order.{cell_cmp}
use Rattle.elem_cubes.specs.Laws.{cell_at}
use Rattle.elem_cubes.proofs.Bits.{few_intervals}
use Rattle.elem_cubes.proofs.Choosing.{few_faces, length-closure}
use Rattle.elem_cubes.proofs.FaceLemmas.{face_length, face_trans}
use Rattle.elem_cubes.proofs.Members.{In, In-from, from-In}
use Rattle.elem_cubes.proofs.Ranges.{faces_stay_in_range}
use Rattle.cube_sets.specs.Sorted.{has}
use Rattle.cube_sets.specs.Sets.{Members, IsCubeSet, is_member}
use Rattle.cube_sets.specs.Closures.{is_cell_of}
use Rattle.cube_sets.proofs.Spreads.{has_In, In_has, all_from_In, In_passes}
use Rattle.cube_sets.proofs.Covering.{member_parts, member_of, in_range}
use Rattle.cell_complex.specs.Sorted.{IsSortedCells}
use Rattle.cell_complex.specs.RelativeComplex.{IsClosedList}
use Rattle.cell_complex.specs.Acyclic.{IsAcyclic}
use Rattle.cell_complex.specs.Growth.{cells_in}
use Rattle.cell_complex.proofs.Alike.{of_cells}
use Rattle.cell_complex.proofs.Deciding.{has_is, has_from, from_has}
use Rattle.cell_complex.proofs.Meeting.{cells_in-face, face-cells_in}
use Rattle.excision.specs.Left.{IsMovableInto, IsClosedIn}

-- ---- the faces that a test tells

abbrev pub AreDeadTo : (List Factor → Bool) → List Factor → List (List Factor) → List (List Factor) → Type 0
AreDeadTo t q dead rest = dead ++ filter t rest ≡ filter t (closure_of q)

module _ (t : List Factor → Bool) (q : List Factor) (dead : List (List Factor)) where
  pub rest_first : (rest : List (List Factor)) → rest ≡ closure_of q → dead ≡ [] → AreDeadTo t q dead rest
  rest_first rest e f = λ j. f j ++ filter t (e j)

  pub rest_skip : (rest next : List (List Factor)) (c : List Factor) → rest ≡ c ∷ next → t c ≡ false → AreDeadTo t q dead rest → AreDeadTo t q dead next
  rest_skip rest next c e f r = ap (λ (xs : List (List Factor)). dead ++ xs) (sym (ap (filter t) e ∙ ap (λ b. cond b (c ∷ filter t next) (filter t next)) f)) ∙ r

  pub rest_take : (rest next now : List (List Factor)) (c : List Factor) → rest ≡ c ∷ next → t c ≡ true → now ≡ dead ++ c ∷ [] → AreDeadTo t q dead rest → AreDeadTo t q now next
  rest_take rest next now c e f g r = ap (λ (xs : List (List Factor)). xs ++ filter t next) g ∙ append_assoc dead (c ∷ []) (filter t next) ∙ ap (λ (xs : List (List Factor)). dead ++ xs) (sym (ap (filter t) e ∙ ap (λ b. cond b (c ∷ filter t next) (filter t next)) f)) ∙ r

  pub rest_end : (rest : List (List Factor)) → rest ≡ [] → AreDeadTo t q dead rest → dead ≡ cells_in t q
  rest_end rest e r = sym (ap (λ (xs : List (List Factor)). dead ++ filter t xs) e ∙ nothing dead) ∙ r
    where
      nothing : (xs : List (List Factor)) → xs ++ [] ≡ xs
      nothing [] = refl
      nothing (x ∷ xs) = ap (λ (ys : List (List Factor)). x ∷ ys) (nothing xs)

few_filtered : (t : List Factor → Bool) (xs : List (List Factor)) → length (filter t xs) ≤ length xs
few_filtered t [] = omega arith
few_filtered t (x ∷ xs) = ⊎_elim
    (λ e. let h : length (filter t (x ∷ xs)) ≡ suc (length (filter t xs)) = ap (λ b. length (cond b (x ∷ filter t xs) (filter t xs))) e in let k = few_filtered t xs in omega arith)
    (λ e. let h : length (filter t (x ∷ xs)) ≡ length (filter t xs) = ap (λ b. length (cond b (x ∷ filter t xs) (filter t xs))) e in let k = few_filtered t xs in omega arith)
    (cases_Bool (t x))

module _ (t : List Factor → Bool) (q : List Factor) where
  pub dead_few : (dead : List (List Factor)) → dead ≡ cells_in t q → length q ≤ MAX_EMBEDDING → length dead < 2 ^ 32
  dead_few dead e l =
      let a = few_filtered t (closure_of q) in
      let b = few_faces (dimension_of q) (let h = few_intervals q in omega arith) in
      omega (arith, ap length e, length-closure q)

  in_dead : (c : List Factor) → In (cells_in t q) c → IsFace q c × (t c ≡ true)
  in_dead c i = cells_in-face t q c (In_has (cells_in t q) c i)

  pub dead_alike : (dead : List (List Factor)) (n : ℕ) → dead ≡ cells_in t q → n ≡ length q → list_all is_file_factor q ≡ true → list_all (is_member n) dead ≡ true
  dead_alike dead n e l range = ap (list_all (is_member n)) e ∙ all_from_In (is_member n) (cells_in t q) (λ c i. let f = (in_dead c i).0 in member_of n c (face_length q c f ∙ sym l) (faces_stay_in_range.files q c f range))

pub sorted_of_set : (s : Members) → IsCubeSet s → IsSortedCells s.cells
sorted_of_set s k = record {
  sorted = k.sorted;
  alike = λ i j li lj. len i li ∙ sym (len j lj);
  in_range = in_range s.dimension s.cells k.alike;
  few = k.few;
}
  where
    at : (xs : List (List Factor)) (i : ℕ) → i < length xs → In xs (cell_at xs i)
    at [] i l = absurd (omega arith)
    at (x ∷ xs) zero l = inl refl
    at (x ∷ xs) (suc i) l = inr (at xs i (omega arith))

    len : (i : ℕ) → i < length s.cells → length (cell_at s.cells i) ≡ s.dimension
    len i l = (member_parts s.dimension (cell_at s.cells i) (In_passes (is_member s.dimension) s.cells (cell_at s.cells i) k.alike (at s.cells i l))).0

-- lists with the same members have the same cells
cells_alike : (xs ys : List (List Factor)) → ((c : List Factor) → has cell_cmp xs c ≡ has cell_cmp ys c) → (c : List Factor) → is_cell_of xs c ≡ is_cell_of ys c
cells_alike xs ys h c = cmp.both_ways (is_cell_of xs c) (is_cell_of ys c) (λ e. over xs ys h e) (λ e. over ys xs (λ d. sym (h d)) e)
  where
    over : (us vs : List (List Factor)) → ((d : List Factor) → has cell_cmp us d ≡ has cell_cmp vs d) → is_cell_of us c ≡ true → is_cell_of vs c ≡ true
    over us vs k e =
        let w = Any-from_list_any (λ s. is_face s c) us e in
        let v = from_has vs w.1 (sym (has_is vs w.1) ∙ sym (k w.1) ∙ has_is us w.1 ∙ has_from us w.1 (w.0, w.2, w.3)) in
        list_any_at (λ s. is_face s c) vs v.0 w.1 v.1 (ap (λ s. is_face s c) v.2 ∙ w.4)

module _ (t : List Factor → Bool) (q : List Factor) (inner : IsClosedIn q t) (dead : List (List Factor)) (same : (c : List Factor) → has cell_cmp dead c ≡ has cell_cmp (cells_in t q) c) where
  of_dead : (c : List Factor) → Contains dead c → IsFace q c × (t c ≡ true)
  of_dead c w = cells_in-face t q c (sym (same c) ∙ In_has dead c (In-from dead c w))

  pub dead_closed : IsClosedList dead
  dead_closed c r f w =
      let v = of_dead c w in
      from-In dead r (has_In dead r (same r ∙ face-cells_in t q r (face_trans q c r v.0 f) (inner c r v.0 f v.1)))

  pub acyclic_told : (p : ℕ) (b : Bool) → ((b ≡ true → IsAcyclic p dead) × (IsAcyclic p dead → b ≡ true)) → (b ≡ true → IsAcyclic p (cells_in t q)) × (IsAcyclic p (cells_in t q) → b ≡ true)
  acyclic_told p b h = (
    (λ e. of_cells p dead (cells_in t q) (cells_alike dead (cells_in t q) same) (h.0 e)),
    (λ a. h.1 (of_cells p (cells_in t q) dead (cells_alike (cells_in t q) dead (λ c. sym (same c))) a)),
  )

pub movable_told : (p : ℕ) (t : List Factor → Bool) (q : List Factor) (b : Bool) → t q ≡ false → ((b ≡ true → IsAcyclic p (cells_in t q)) × (IsAcyclic p (cells_in t q) → b ≡ true)) → (b ≡ true → IsMovableInto p t q) × (IsMovableInto p t q → b ≡ true)
movable_told p t q b new h = ((λ e. record { new = new; acyclic = h.0 e }), (λ m. h.1 m.acyclic))

pub ok_by : {E : Type 0} (P Q : Bool → Type 0) (r : Result Bool E) → IfOk r P → ((b : Bool) → P b → Q b) → IfOk r Q
ok_by P Q (Ok b) h f = f b h
ok_by P Q (Err e) h f = tt
