-- Cells, lists of cells and shapes that are moved: acyclic shapes stay acyclic.
use Rattle.std.proofs.Common.{◌≡◌, ◌↔◌, inl, inr, ⊎_elim, ℕ, suc, ◌<◌, ◌/◌, ◌%◌, refl, sym, ap, ◌∙◌, subst, arith, List, [], ◌∷◌, ◌++◌, length, get_or, map, Bool, true, false, cond, ◌&&◌}
use Rattle.std.specs.Prelude.{ℤ, pos, ◌+ℤ◌, neg_ℤ, ◌==◌}
use Rattle.std.specs.List.{Contains, list_all}
use Rattle.std.specs.Cmp as cmp
use Rattle.std.proofs.lemmas.Int.{ints}
use Rattle.std.proofs.lemmas.List.{ext_get_or, get_or-map, length-map, get_or-set_same, get_or-set_other}
use Rattle.std.proofs.lemmas.List.Elements.{Contains-push_cases}
use Rattle.std.proofs.lemmas.Bool.{cases_eq}
use Rattle.std.proofs.Math.ListN.{set, length-set}
use Rattle.elem_cubes.specs.Cells.{Factor, point, interval, lower_of, cell_of}
use Rattle.elem_cubes.specs.Faces.{IsPart, IsFace}
use Rattle.elem_cubes.specs.Laws.{cell_at}
use Rattle.elem_cubes.proofs.Members.{In, In-from, from-In, In-map, map-In}
use Rattle.cube_sets.specs.Closures.{is_cell_of}
use Rattle.cell_complex.specs.AcyclicLists.{IsAcyclicList}
use Rattle.cell_complex.specs.Moved.{shift, moved}
use Rattle.cell_complex.specs.RelativeComplex.{IsClosedList}
use Rattle.cell_complex.proofs.Alike.{lists_and_sets}
use Rattle.cell_complex.proofs.Deciding.{closed}
use Rattle.cell_complex.proofs.Translating.{back, forth, acyclic_moved}
use Rattle.acyclic_values.proofs.Cells.{all_In, In_all, cell_in, cell_from}
use Rattle.map_checks.specs.Shapes.{InShape, IsAcyclicShape, AreAcyclicShapes, AreEndsMoved, IsMovedShape}

-- ---- cells

pub cell_moved_to : (by ls ms : List ℤ) (axes : ℕ) → AreEndsMoved by ls ms → cell_of ms axes ≡ moved by (cell_of ls axes)
cell_moved_to [] [] [] axes h = refl
cell_moved_to [] [] (m ∷ ms) axes h = absurd (omega (arith, h.count_to))
cell_moved_to [] (l ∷ ls) ms axes h = absurd (omega (arith, h.count))
cell_moved_to (v ∷ by) [] ms axes h = absurd (omega (arith, h.count))
cell_moved_to (v ∷ by) (l ∷ ls) [] axes h = absurd (omega (arith, h.count_to))
cell_moved_to (v ∷ by) (l ∷ ls) (m ∷ ms) axes h =
    let rest = cell_moved_to by ls ms (axes / 2) (record { count = omega (arith, h.count); count_to = omega (arith, h.count_to); sums = λ i k. h.sums (suc i) (omega arith) }) in
    let first : l +ℤ v ≡ m = h.sums 0 (omega arith) in
    λ j. head (axes % 2 == 1) first j ∷ rest j
  where
    head : (b : Bool) → l +ℤ v ≡ m → cond b (interval m) (point m) ≡ shift v (cond b (interval l) (point l))
    head true e = ap interval (sym e)
    head false e = ap point (sym e)

pub moved_by_ends : (by ls ms : List ℤ) (from to : List Factor) (a b : ℕ) → from ≡ cell_of (lower_of from) a → to ≡ cell_of (lower_of to) b → a ≡ b → ls ≡ lower_of from → ms ≡ lower_of to
    → AreEndsMoved by ls ms → to ≡ moved by from
moved_by_ends by ls ms from to a b f t e l m h =
    t ∙ ap (λ (x : List ℤ). cell_of x b) (sym m) ∙ ap (cell_of ms) (sym e) ∙ cell_moved_to by ls ms a h ∙ ap (λ (x : List ℤ). moved by (cell_of x a)) l ∙ ap (moved by) (sym f)

-- a list whose elements are those of f
pub mapped : {X Y : Type 0} (f : X → Y) (xs : List X) (ys : List Y) (d : X) (e : Y) → length xs ≡ length ys → ((i : ℕ) → i < length xs → get_or ys i e ≡ f (get_or xs i d)) → ys ≡ map f xs
mapped f xs ys d e count h = ext_get_or e ys (map f xs) (sym count ∙ sym (length-map xs f)) (λ i l. let k : i < length xs = omega (arith, count, l) in h i k ∙ sym (get_or-map f xs i d e k))

part_moved : (v : ℤ) (q r : Factor) → IsPart q r → IsPart (shift v q) (shift v r)
part_moved v (point l) (point m) e = ap (λ x. x +ℤ v) e
part_moved v (point l) (interval m) e = e
part_moved v (interval l) (point m) (inl e) = inl (ap (λ x. x +ℤ v) e)
part_moved v (interval l) (point m) (inr e) = inr (let k : m +ℤ v ≡ (l +ℤ v) +ℤ pos 1 = omega (arith, ints, e) in k)
part_moved v (interval l) (interval m) e = ap (λ x. x +ℤ v) e

face_moved : (vs : List ℤ) (q r : List Factor) → IsFace q r → IsFace (moved vs q) (moved vs r)
face_moved [] q r f = f
face_moved (v ∷ vs) [] [] f = f
face_moved (v ∷ vs) [] (r ∷ rs) f = absurd f
face_moved (v ∷ vs) (q ∷ qs) [] f = absurd f
face_moved (v ∷ vs) (q ∷ qs) (r ∷ rs) f = (part_moved v q r f.0, face_moved vs qs rs f.1)

-- ---- shapes

module _ (vs : List ℤ) where
  abbrev to : List Factor → List Factor
  to = moved vs

  abbrev home : List Factor → List Factor
  home = moved (map neg_ℤ vs)

  cell_there : (x : List (List Factor)) (g : List Factor) → is_cell_of x g ≡ true → is_cell_of (map to x) (to g) ≡ true
  cell_there x g c = let w = cell_in x g c in cell_from (map to x) (to w.0) (to g) (map-In to x w.0 w.1) (face_moved vs w.0 g w.2)

  cell_home : (x : List (List Factor)) (g : List Factor) → is_cell_of (map to x) g ≡ true → is_cell_of x (home g) ≡ true
  cell_home x g c =
      let w = cell_in (map to x) g c in
      let u = In-map to x w.0 w.1 in
      cell_from x u.0 (home g) u.1 (subst (λ (q : List Factor). IsFace q (home g)) (ap home (sym u.2) ∙ back vs u.0) (face_moved (map neg_ℤ vs) w.0 g w.2))

  same_cells : (x : List (List Factor)) (g : List Factor) → is_cell_of (map to x) (to g) ≡ is_cell_of x g
  same_cells x g = cmp.both_ways (is_cell_of (map to x) (to g)) (is_cell_of x g)
      (λ e. subst (λ (q : List Factor). is_cell_of x q ≡ true) (back vs g) (cell_home x (to g) e))
      (λ e. cell_there x g e)

  same_shape : (shape : List (List (List Factor))) (g : List Factor) → list_all (λ v. is_cell_of v (to g)) (map (map to) shape) ≡ list_all (λ v. is_cell_of v g) shape
  same_shape [] g = refl
  same_shape (x ∷ shape) g = λ j. same_cells x g j && same_shape shape g j

  forth_all : (value : List (List Factor)) → map to (map home value) ≡ value
  forth_all [] = refl
  forth_all (q ∷ value) = λ j. forth vs q j ∷ forth_all value j

abbrev all_home : List ℤ → List (List Factor) → List (List Factor)
all_home vs value = map (moved (map neg_ℤ vs)) value

abbrev AreApart : List (List Factor) → Type 0
AreApart value = (i j : ℕ) → i < length value → j < length value → cell_at value i ≡ cell_at value j → i ≡ j

pub closed_shape : (shape : List (List (List Factor))) (value : List (List Factor)) → ((g : List Factor) → Contains value g ↔ InShape shape g) → IsClosedList value
closed_shape shape value members q r f w =
    (members r).1 (In_all (λ v. is_cell_of v r) shape (λ v u. closed v q r f (all_In (λ v. is_cell_of v q) shape ((members q).0 w) v u)))

pub acyclic_shape_moved : (p : ℕ) (vs : List ℤ) (shape : List (List (List Factor))) → IsAcyclicShape p shape → IsAcyclicShape p (map (map (moved vs)) shape)
acyclic_shape_moved p vs shape h value once members =
    (lists_and_sets p value (closed_shape (map (map (moved vs)) shape) value members) once).1 (subst (λ (v : List (List Factor)). IsAcyclicList p v) (forth_all vs value)
    (acyclic_moved p vs (all_home vs value) ((lists_and_sets p (all_home vs value) (closed_shape shape (all_home vs value) members_home) once_home).0 (h (all_home vs value) once_home members_home))))
  where
    once_home : AreApart (all_home vs value)
    once_home i j li lj e =
        let n = length-map value (moved (map neg_ℤ vs)) in
        let ki : i < length value = omega (arith, n, li) in
        let kj : j < length value = omega (arith, n, lj) in
        let f : moved (map neg_ℤ vs) (cell_at value i) ≡ moved (map neg_ℤ vs) (cell_at value j) = sym (get_or-map (moved (map neg_ℤ vs)) value i [] [] ki) ∙ e ∙ get_or-map (moved (map neg_ℤ vs)) value j [] [] kj in
        once i j ki kj (sym (forth vs (cell_at value i)) ∙ ap (moved vs) f ∙ forth vs (cell_at value j))

    members_home : (c : List Factor) → Contains (all_home vs value) c ↔ InShape shape c
    members_home c = (
      λ w.
          let u = In-map (moved (map neg_ℤ vs)) value c (In-from (all_home vs value) c w) in
          let e : u.0 ≡ moved vs c = sym (forth vs u.0) ∙ ap (moved vs) u.2 in
          sym (same_shape vs shape c) ∙ subst (λ (q : List Factor). InShape (map (map (moved vs)) shape) q) e ((members u.0).0 (from-In value u.0 u.1)),
      λ k.
          let w = In-from value (moved vs c) ((members (moved vs c)).1 (same_shape vs shape c ∙ k)) in
          from-In (all_home vs value) c (subst (λ (q : List Factor). In (all_home vs value) q) (back vs c) (map-In (moved (map neg_ℤ vs)) value (moved vs c) w)),
    )

-- ---- what is remembered

pub acyclic_by_moved : (p : ℕ) (known : List (List (List (List Factor)))) (kept shape : List (List (List Factor))) → AreAcyclicShapes p known → Contains known kept → IsMovedShape kept shape → IsAcyclicShape p shape
acyclic_by_moved p known kept shape h w m = subst (IsAcyclicShape p) (sym m.is) (acyclic_shape_moved p m.by kept (h kept w m.some))

pub none_pushed : (p : ℕ) (known new : List (List (List (List Factor)))) (shape : List (List (List Factor))) → new ≡ known ++ shape ∷ [] → shape ≡ [] → AreAcyclicShapes p known → AreAcyclicShapes p new
none_pushed p known new shape e empty h = subst (AreAcyclicShapes p) (sym e)
    (λ other w some. ⊎_elim (λ v. h other v some) (λ f. absurd (some (sym f ∙ empty))) (Contains-push_cases known shape other w))

pub one_kept : (p : ℕ) (known : List (List (List (List Factor)))) (i : ℕ) (new : List (List (List Factor))) → i < length known → AreAcyclicShapes p known → IsAcyclicShape p new → AreAcyclicShapes p (set known i new)
one_kept p known i new l h is shape w some = ⊎_elim
    (λ e. subst (IsAcyclicShape p) (sym (get_or-set_same known i new shape l) ∙ ap (λ j. get_or (set known i new) j shape) (sym e) ∙ w.2) is)
    (λ other. h shape (w.0, (omega (arith, w.1, length-set known i new)), sym (get_or-set_other known i w.0 new shape other) ∙ w.2) some)
    (cases_eq w.0 i)
