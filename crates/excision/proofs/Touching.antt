-- Members of the subset that do not touch the set make no difference to the relative cells, nor to growths
use Rattle.std.proofs.Common.{◌≡◌, ℕ, inl, inr, refl, sym, ap, ◌∙◌, arith, ⊎_elim, List, [], ◌∷◌, ◌++◌, take, Bool, true, false, cond, ◌&&◌, ◌||◌, subst, get_or}
use Rattle.std.specs.Prelude.{ℤ, pos, ◌+ℤ◌, not}
use Rattle.std.specs.List.{Contains, filter}
use Rattle.std.specs.Prelude.{int_le}
use Rattle.std.proofs.lemmas.Bool.{true≢false, cases_Bool, and_parts, and_from}
use Rattle.std.proofs.lemmas.Int.{ints}
use Rattle.std.proofs.lemmas.List.Folds.{list_any_at, Any-from_list_any, list_any-append}
use Rattle.std.proofs.lemmas.Map.Views.{any-filter_same}
use Rattle.elem_cubes.specs.Cells.{Factor, point, interval, low, high, dimension_of}
use Rattle.elem_cubes.specs.Faces.{IsPart, IsFace, is_face, closure_of}
use Rattle.elem_cubes.specs.Laws.{cell_at}
use Rattle.elem_cubes.proofs.FaceLemmas.{face_refl}
use Rattle.elem_cubes.proofs.Listing.{closures_are_faces}
use Rattle.elem_cubes.proofs.Members.{In, from-In}
use Rattle.cube_sets.specs.Closures.{is_cell_of}
use Rattle.cube_sets.specs.Neighbours.{factors_meet, cells_meet}
use Rattle.cell_complex.specs.RelativeComplex.{is_relative}
use Rattle.cell_complex.proofs.Deciding.{face_true, face_from}
use Rattle.cell_complex.specs.Acyclic.{IsAcyclic}
use Rattle.cell_complex.specs.Growth.{IsMovable, IsFinishedGrowth}
use Rattle.excision.specs.Left.{IsMovableInto}
use Rattle.excision.specs.Excision.{touches}
use Rattle.excision.specs.Laws.{ExcisionKeepsCells, TouchingCellsShareVertices}

-- two factors with a part in common meet
parts_meet : (f g r : Factor) → IsPart f r → IsPart g r → factors_meet f g ≡ true
parts_meet (point l) (point m) (point o) e h = grind (arith, ints)
parts_meet (point l) (interval m) (point o) e h = ⊎_elim (λ k. at_low l m o e k) (λ k. at_high l m o e k) h
  where
    at_low : (l m o : ℤ) → o ≡ l → o ≡ m → factors_meet (point l) (interval m) ≡ true
    at_low l m o e k = grind (arith, ints)

    at_high : (l m o : ℤ) → o ≡ l → o ≡ m +ℤ pos 1 → factors_meet (point l) (interval m) ≡ true
    at_high l m o e k = grind (arith, ints)
parts_meet (interval l) (point m) (point o) e h = ⊎_elim (λ k. at_low l m o k h) (λ k. at_high l m o k h) e
  where
    at_low : (l m o : ℤ) → o ≡ l → o ≡ m → factors_meet (interval l) (point m) ≡ true
    at_low l m o e k = grind (arith, ints)

    at_high : (l m o : ℤ) → o ≡ l +ℤ pos 1 → o ≡ m → factors_meet (interval l) (point m) ≡ true
    at_high l m o e k = grind (arith, ints)
parts_meet (interval l) (interval m) (point o) e h = ⊎_elim (λ j. ⊎_elim (λ k. one l m o j k) (λ k. two l m o j k) h) (λ j. ⊎_elim (λ k. three l m o j k) (λ k. four l m o j k) h) e
  where
    one : (l m o : ℤ) → o ≡ l → o ≡ m → factors_meet (interval l) (interval m) ≡ true
    one l m o e k = grind (arith, ints)

    two : (l m o : ℤ) → o ≡ l → o ≡ m +ℤ pos 1 → factors_meet (interval l) (interval m) ≡ true
    two l m o e k = grind (arith, ints)

    three : (l m o : ℤ) → o ≡ l +ℤ pos 1 → o ≡ m → factors_meet (interval l) (interval m) ≡ true
    three l m o e k = grind (arith, ints)

    four : (l m o : ℤ) → o ≡ l +ℤ pos 1 → o ≡ m +ℤ pos 1 → factors_meet (interval l) (interval m) ≡ true
    four l m o e k = grind (arith, ints)
parts_meet (interval l) (interval m) (interval o) e h = grind (arith, ints)
parts_meet (point l) g (interval o) e h = absurd e
parts_meet (interval l) (point m) (interval o) e h = absurd h

faces_meet : (s m q : List Factor) → IsFace s q → IsFace m q → cells_meet s m ≡ true
faces_meet [] [] q e h = refl
faces_meet [] (f ∷ fs) [] e h = absurd h
faces_meet [] (f ∷ fs) (r ∷ rs) e h = absurd e
faces_meet (f ∷ fs) m [] e h = absurd e
faces_meet (f ∷ fs) [] (r ∷ rs) e h = absurd h
faces_meet (f ∷ fs) (g ∷ gs) (r ∷ rs) e h = and_from (factors_meet f g) (cells_meet fs gs) (parts_meet f g r e.0 h.0) (faces_meet fs gs rs e.1 h.1)

-- of a cell of x the excised subset tells what the subset tells
pub told_alike : (x a : List (List Factor)) (q : List Factor) → is_cell_of x q ≡ true → is_cell_of (filter (touches x) a) q ≡ is_cell_of a q
told_alike x a q e =
    let w = Any-from_list_any (λ s. is_face s q) x e in
    any-filter_same (λ m. is_face m q) (touches x) true (λ m f. list_any_at (λ s. cells_meet s m) x w.0 w.1 w.2 (ap (λ s. cells_meet s m) w.3 ∙ faces_meet w.1 m q (face_true w.1 q w.4) (face_true m q f))) a

same_relative : (x a : List (List Factor)) (q : List Factor) → is_relative x (filter (touches x) a) q ≡ is_relative x a q
same_relative x a q = ⊎_elim
    (λ e. ap (λ b. is_cell_of x q && not b) (told_alike x a q e))
    (λ e. ap (λ b. b && not (is_cell_of (filter (touches x) a) q)) e ∙ sym (ap (λ b. b && not (is_cell_of a q)) e))
    (cases_Bool (is_cell_of x q))

-- tests that agree at each element of a list keep the same elements
filter_alike : (t u : List Factor → Bool) (cells : List (List Factor)) → ((s : List Factor) → In cells s → t s ≡ u s) → filter t cells ≡ filter u cells
filter_alike t u [] h = refl
filter_alike t u (s ∷ cells) h = ap (λ b. cond b (s ∷ filter t cells) (filter t cells)) (h s (inl refl)) ∙ ap (λ (rest : List (List Factor)). cond (u s) (s ∷ rest) rest) (filter_alike t u cells (λ r i. h r (inr i)))

pub member_cell : (x : List (List Factor)) (q c : List Factor) → Contains x q → IsFace q c → is_cell_of x c ≡ true
member_cell x q c w f = list_any_at (λ s. is_face s c) x w.0 q w.1 (face_from (get_or x w.0 q) c (let P : List Factor → Type 0 = λ s. IsFace s c in subst P (sym w.2) f))

-- what may be moved depends on the cells of the cube alone
pub movable_by : (p : ℕ) (t u : List Factor → Bool) (q : List Factor) → ((c : List Factor) → IsFace q c → t c ≡ u c) → IsMovableInto p t q → IsMovableInto p u q
movable_by p t u q h m = record {
  new = sym (h q (face_refl q)) ∙ m.new;
  acyclic = subst (λ (cells : List (List Factor)). IsAcyclic p cells) (filter_alike t u (closure_of q) (λ c i. h c ((closures_are_faces.faces q c).0 (from-In (closure_of q) c i)))) m.acyclic;
}

pub movable_alike : (p : ℕ) (s r : List (List Factor)) (q : List Factor) → ((c : List Factor) → IsFace q c → is_cell_of s c ≡ is_cell_of r c) → IsMovable p s q → IsMovable p r q
movable_alike p s r q h m = let v = movable_by p (is_cell_of s) (is_cell_of r) q h (record { new = m.new; acyclic = m.acyclic }) in record { new = v.new; acyclic = v.acyclic }

module _ (p : ℕ) (x a : List (List Factor)) where
  with_more : (more : List (List Factor)) (q c : List Factor) → Contains x q → IsFace q c → is_cell_of (filter (touches x) a ++ more) c ≡ is_cell_of (a ++ more) c
  with_more more q c w f =
      let cell = member_cell x q c w f in
      list_any-append (λ s. is_face s c) (filter (touches x) a) more ∙ ap (λ b. b || is_cell_of more c) (told_alike x a c cell) ∙ sym (list_any-append (λ s. is_face s c) a more)

  same_growths : (cubes : List (List Factor)) → IsFinishedGrowth p x (filter (touches x) a) cubes → IsFinishedGrowth p x a cubes
  same_growths cubes g = record {
    growth = record {
      members = g.growth.members;
      moves = λ i l. movable_alike p (filter (touches x) a ++ take i cubes) (a ++ take i cubes) (cell_at cubes i) (λ c f. with_more (take i cubes) (cell_at cubes i) c (g.growth.members i l) f) (g.growth.moves i l);
    };
    finished = λ q w m. g.finished q w (movable_alike p (a ++ cubes) (filter (touches x) a ++ cubes) q (λ c f. sym (with_more cubes q c w f)) m);
  }

pub excision_keeps : ExcisionKeepsCells
excision_keeps = record {
  cells = same_relative;
  growths = same_growths;
}

-- ---- a common vertex

common_point : (f g : Factor) → factors_meet f g ≡ true → (m : ℤ) × IsPart f (point m) × IsPart g (point m)
common_point f g h =
    let w = and_parts (int_le (low f) (high g)) (int_le (low g) (high f)) h in
    ⊎_elim
    (λ e. (low g, from_low f (low g) e w.1, own_low g))
    (λ e. (low f, own_low f, from_low g (low f) (turned (low f) (low g) e) w.0))
    (cases_Bool (int_le (low f) (low g)))
  where
    own_low : (q : Factor) → IsPart q (point (low q))
    own_low (point l) = refl
    own_low (interval l) = inl refl

    turned : (a b : ℤ) → int_le a b ≡ false → int_le b a ≡ true
    turned a b e = grind (arith, ints)

    same : (a b : ℤ) → int_le a b ≡ true → int_le b a ≡ true → b ≡ a
    same a b e h = grind (arith, ints)

    next : (a b : ℤ) → int_le a b ≡ true → int_le b (a +ℤ pos 1) ≡ true → int_le b a ≡ false → b ≡ a +ℤ pos 1
    next a b e h n = grind (arith, ints)

    from_low : (q : Factor) (m : ℤ) → int_le (low q) m ≡ true → int_le m (high q) ≡ true → IsPart q (point m)
    from_low (point l) m e h = same l m e h
    from_low (interval l) m e h = ⊎_elim (λ b. inl (same l m e b)) (λ b. inr (next l m e h b)) (cases_Bool (int_le m l))

meet_vertex : (s c : List Factor) → cells_meet s c ≡ true → (v : List Factor) × (dimension_of v ≡ 0) × IsFace s v × IsFace c v
meet_vertex [] [] h = ([], refl, tt, tt)
meet_vertex [] (g ∷ gs) h = absurd (true≢false (sym h))
meet_vertex (f ∷ fs) [] h = absurd (true≢false (sym h))
meet_vertex (f ∷ fs) (g ∷ gs) h =
    let w = and_parts (factors_meet f g) (cells_meet fs gs) h in
    let m = common_point f g w.0 in
    let v = meet_vertex fs gs w.1 in
    (point m.0 ∷ v.0, v.1, (m.1, v.2), (m.2, v.3))

pub share_vertices : TouchingCellsShareVertices
share_vertices s c = ((λ h. meet_vertex s c h), (λ v. faces_meet s c v.0 v.2 v.3))
