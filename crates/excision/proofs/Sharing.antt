-- The search for the members that touch a set
use Rattle.std.proofs.Common.{◌≡◌, ℕ, suc, ◌+◌, ◌^◌, ◌<◌, ◌≤◌, inl, inr, refl, sym, ap, ◌∙◌, arith, ⊎_elim, List, [], ◌∷◌, ◌++◌, length, take, get_or, Bool, true, false, cond, ◌&&◌, subst}
use Rattle.std.specs.List.{filter, list_all}
use Rattle.std.specs.Cmp as cmp
use Rattle.std.proofs.lemmas.Bool.{and_parts, cases_Bool}
use Rattle.std.proofs.lemmas.List.{get_or_default}
use Rattle.std.proofs.lemmas.List.Elements.{filter_more}
use Rattle.std.proofs.lemmas.List.Kept.{IsStrictlySortedBy-filter}
use Rattle.std.proofs.lemmas.List.Folds.{list_any_at, Any-from_list_any}
use Rattle.elem_cubes.specs.Cells.{Factor, dimension_of}
use Rattle.elem_cubes.specs.Faces.{IsFace, is_face, closure_of}
use Rattle.elem_cubes.specs.Order.{cell_cmp}
use Rattle.elem_cubes.proofs.Listing.{closures_are_faces}
use Rattle.elem_cubes.proofs.Members.{In, In-from, from-In}
use Rattle.cube_sets.specs.Sorted.{has}
use Rattle.cube_sets.specs.Sets.{Members, IsCubeSet, is_member, holds}
use Rattle.cube_sets.specs.Closures.{is_cell_of, closure}
use Rattle.cube_sets.specs.Neighbours.{cells_meet}
use Rattle.cube_sets.proofs.Covering.{cells_are_faces}
use Rattle.cube_sets.proofs.SameSets.{same_sets, same_members}
use Rattle.cell_complex.specs.RelativeComplex.{is_relative}
use Rattle.cell_complex.proofs.Deciding.{face_true, face_from}
use Rattle.excision.specs.Excision.{touches, excised, HasVertexIn}
use Rattle.excision.proofs.Touching.{excision_keeps, share_vertices}

-- ---- a common vertex

-- the vertices among the faces that are still to come, or one that was found
pub record LookedTo (test : List Factor → Bool) (c : List Factor) (rest : List (List Factor)) : Type 0 where
  pub faces : (v : List Factor) → In rest v → IsFace c v
  pub left : HasVertexIn test c → (v : List Factor) × (dimension_of v ≡ 0) × In rest v × (test v ≡ true)

pub looked_first : (test : List Factor → Bool) (c : List Factor) (rest : List (List Factor)) → rest ≡ closure_of c → LookedTo test c rest
looked_first test c rest e = record {
  faces = λ v i. (closures_are_faces.faces c v).0 (from-In (closure_of c) v (subst (λ (xs : List (List Factor)). In xs v) e i));
  left = λ w. (w.0, w.1, subst (λ (xs : List (List Factor)). In xs w.0) (sym e) (In-from (closure_of c) w.0 ((closures_are_faces.faces c w.0).1 w.2)), w.3);
}

module _ (test : List Factor → Bool) (c : List Factor) (rest next : List (List Factor)) (v : List Factor) (e : rest ≡ v ∷ next) (s : LookedTo test c rest) where
  pub looked_next : ((dimension_of v ≡ 0) → (test v ≡ true) → ⊥) → LookedTo test c next
  looked_next none = record {
    faces = λ u i. s.faces u (subst (λ (xs : List (List Factor)). In xs u) (sym e) (inr i));
    left = λ w. let u = s.left w in ⊎_elim
        (λ k. absurd (none (ap dimension_of k ∙ u.1) (ap test k ∙ u.3)))
        (λ i. (u.0, u.1, i, u.3))
        (subst (λ (xs : List (List Factor)). In xs u.0) e u.2);
  }

  pub looked_found : dimension_of v ≡ 0 → test v ≡ true → HasVertexIn test c
  looked_found d t = (v, d, s.faces v (subst (λ (xs : List (List Factor)). In xs v) (sym e) (inl refl)), t)

pub looked_end : (test : List Factor → Bool) (c : List Factor) (rest : List (List Factor)) → rest ≡ [] → LookedTo test c rest → ¬ HasVertexIn test c
looked_end test c rest e s w = let u = s.left w in subst (λ (xs : List (List Factor)). In xs u.0) e u.2

-- a cell touches x where some vertex of it is a face of a member
pub touch_told : (x faces : Members) (c : List Factor) (b : Bool) → faces ≡ closure x → ((b ≡ true → HasVertexIn (holds faces) c) × (HasVertexIn (holds faces) c → b ≡ true)) → b ≡ touches x.cells c
touch_told x faces c b e h = cmp.both_ways b (touches x.cells c)
    (λ t. let w = h.0 t in
    let v : is_cell_of x.cells w.0 ≡ true = sym (cells_are_faces.faces x.cells w.0) ∙ ap (λ (m : Members). holds m w.0) (sym e) ∙ w.3 in
    let m = Any-from_list_any (λ s. is_face s w.0) x.cells v in
    list_any_at (λ s. cells_meet s c) x.cells m.0 m.1 m.2 (ap (λ s. cells_meet s c) m.3 ∙ (share_vertices m.1 c).1 (w.0, w.1, face_true m.1 w.0 m.4, w.2)))
    (λ t. let m = Any-from_list_any (λ s. cells_meet s c) x.cells t in
    let v = (share_vertices m.1 c).0 m.4 in
    h.1 (v.0, v.1, v.3, ap (λ (k : Members). holds k v.0) e ∙ cells_are_faces.faces x.cells v.0 ∙ list_any_at (λ s. is_face s v.0) x.cells m.0 m.1 m.2 (ap (λ s. is_face s v.0) m.3 ∙ face_from m.1 v.0 v.2)))

-- ---- the members that touch

pub near_skip : (t : List Factor → Bool) (xs near : List (List Factor)) (i : ℕ) (c : List Factor) → i < length xs → c ≡ get_or xs i c → t c ≡ false → near ≡ filter t (take i xs) → near ≡ filter t (take (i + 1) xs)
near_skip t xs near i c l read out e = e ∙ sym (filter_more t xs i [] l ∙ ap (λ b. filter t (take i xs) ++ cond b (get_or xs i [] ∷ []) []) (ap t (sym (read ∙ get_or_default xs i c [] l)) ∙ out) ∙ behind (filter t (take i xs)))
  where
    behind : (ys : List (List Factor)) → ys ++ [] ≡ ys
    behind [] = refl
    behind (y ∷ ys) = ap (λ (zs : List (List Factor)). y ∷ zs) (behind ys)

pub near_more : (t : List Factor → Bool) (xs near now : List (List Factor)) (i : ℕ) (c : List Factor) → i < length xs → c ≡ get_or xs i c → t c ≡ true → now ≡ near ++ c ∷ [] → near ≡ filter t (take i xs) → now ≡ filter t (take (i + 1) xs)
near_more t xs near now i c l read in_t grown e =
    let at : c ≡ get_or xs i [] = read ∙ get_or_default xs i c [] l in
    grown ∙ (λ j. e j ++ at j ∷ []) ∙ sym (filter_more t xs i [] l ∙ ap (λ b. filter t (take i xs) ++ cond b (get_or xs i [] ∷ []) []) (ap t (sym at) ∙ in_t))

all_filtered : (p t : List Factor → Bool) (xs : List (List Factor)) → list_all p xs ≡ true → list_all p (filter t xs) ≡ true
all_filtered p t [] h = refl
all_filtered p t (x ∷ xs) h =
    let w = and_parts (p x) (list_all p xs) h in
    ⊎_elim
    (λ e. ap (λ b. list_all p (cond b (x ∷ filter t xs) (filter t xs))) e ∙ (λ j. w.0 j && all_filtered p t xs w.1 j))
    (λ e. ap (λ b. list_all p (cond b (x ∷ filter t xs) (filter t xs))) e ∙ all_filtered p t xs w.1)
    (cases_Bool (t x))

few_filtered : (t : List Factor → Bool) (xs : List (List Factor)) → length (filter t xs) ≤ length xs
few_filtered t [] = omega arith
few_filtered t (x ∷ xs) = ⊎_elim
    (λ e. let h : length (filter t (x ∷ xs)) ≡ suc (length (filter t xs)) = ap (λ b. length (cond b (x ∷ filter t xs) (filter t xs))) e in let k = few_filtered t xs in omega arith)
    (λ e. let h : length (filter t (x ∷ xs)) ≡ length (filter t xs) = ap (λ b. length (cond b (x ∷ filter t xs) (filter t xs))) e in let k = few_filtered t xs in omega arith)
    (cases_Bool (t x))

module _ (x a : Members) (near : List (List Factor)) (set : IsCubeSet a) (all_near : near ≡ filter (touches x.cells) a.cells) where
  pub near_few : length near < 2 ^ 32
  near_few = let h = few_filtered (touches x.cells) a.cells in let k = set.few in omega (arith, ap length all_near)

  pub near_alike : list_all (is_member a.dimension) near ≡ true
  near_alike = ap (list_all (is_member a.dimension)) all_near ∙ all_filtered (is_member a.dimension) (touches x.cells) a.cells set.alike

  pub near_unknown : a.dimension ≡ 0 → near ≡ []
  near_unknown z = all_near ∙ ap (filter (touches x.cells)) (set.unknown z)

  pub near_is : (s : Members) → IsCubeSet s → s.dimension ≡ a.dimension → ((c : List Factor) → holds s c ≡ has cell_cmp near c) → s ≡ excised x a
  near_is s t d h = same_members s (excised x a) d (same_sets s.cells (filter (touches x.cells) a.cells) t.sorted (IsStrictlySortedBy-filter cell_cmp (touches x.cells) a.cells set.sorted) (λ c. h c ∙ ap (λ (ws : List (List Factor)). has cell_cmp ws c) all_near))

pub near_relative : (x a s : Members) → s ≡ excised x a → (q : List Factor) → is_relative x.cells s.cells q ≡ is_relative x.cells a.cells q
near_relative x a s e q = ap (λ (m : Members). is_relative x.cells m.cells q) e ∙ excision_keeps.cells x.cells a.cells q
