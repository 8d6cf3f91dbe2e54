-- Two full cubes with as many factors have the same faces but for a move, so that a mask of faces tells of both alike
use Rattle.std.proofs.Common.{◌≡◌, ◌≢◌, ◌↔◌, ℕ, ◌+◌, ◌*◌, refl, sym, ap, ◌∙◌, arith, ⊎_elim, List, [], ◌∷◌, length, Bool, true, false, cond, subst, map, Option, Some, None}
use Rattle.std.specs.Prelude.{ℤ, ◌+ℤ◌, neg_ℤ, IsTrue}
use Rattle.std.specs.List.{filter, list_all}
use Rattle.std.specs.Ordering.{nat_cmp}
use Rattle.std.specs.BTreeMap.{BTreeMap, get, is_at, Updates}
use Rattle.std.proofs.lemmas.Bool.{true≢false, cases_eq}
use Rattle.std.proofs.lemmas.Int.{ints}
use Rattle.elem_cubes.specs.Cells.{Factor, point, interval, is_wide}
use Rattle.elem_cubes.specs.Faces.{closure_of}
use Rattle.elem_cubes.proofs.FaceLemmas.{face_refl, face_trans}
use Rattle.elem_cubes.proofs.Listing.{closures_are_faces}
use Rattle.elem_cubes.proofs.Members.{In, In-from, from-In}
use Rattle.cube_sets.proofs.Spreads.{has_In, In_has}
use Rattle.algebraic_reduction.proofs.DueSteps.{at_same, at_other}
use Rattle.cell_complex.specs.RelativeComplex.{IsClosedList}
use Rattle.cell_complex.specs.AcyclicLists.{IsAcyclicList}
use Rattle.cell_complex.specs.Growth.{cells_in}
use Rattle.cell_complex.specs.Moved.{moved}
use Rattle.cell_complex.proofs.Alike.{cells_in_once, lists_and_sets}
use Rattle.cell_complex.proofs.Meeting.{cells_in-face, face-cells_in}
use Rattle.cell_complex.proofs.Translating.{back, closure-moved, acyclic_moved}
use Rattle.excision.specs.Left.{IsClosedIn, IsMovableInto}
use Rattle.excision.specs.Known.{mask_from, Tells, AreKnown}

-- ---- from one full cube to another

pub differences : List Factor → List Factor → List ℤ
differences [] rs = []
differences (q ∷ qs) [] = []
differences (q ∷ qs) (r ∷ rs) = (lower r +ℤ neg_ℤ (lower q)) ∷ differences qs rs
  where
    lower : Factor → ℤ
    lower (point l) = l
    lower (interval l) = l

other_end : (l m : ℤ) → l +ℤ (m +ℤ neg_ℤ l) ≡ m
other_end l m = omega (arith, ints)

pub moves_to : (q r : List Factor) → length q ≡ length r → list_all is_wide q ≡ true → list_all is_wide r ≡ true → moved (differences q r) q ≡ r
unfolding differences
moves_to [] [] e a b = refl
moves_to [] (r ∷ rs) e a b = absurd (omega (arith, e))
moves_to (q ∷ qs) [] e a b = absurd (omega (arith, e))
moves_to (point l ∷ qs) (r ∷ rs) e a b = absurd (true≢false (sym a))
moves_to (interval l ∷ qs) (point m ∷ rs) e a b = absurd (true≢false (sym b))
moves_to (interval l ∷ qs) (interval m ∷ rs) e a b =
    let h = moves_to qs rs (omega (arith, e)) a b in
    λ j. interval (other_end l m j) ∷ h j

-- ---- masks

bit : Bool → ℕ
bit b = cond b 1 0

halves : (m n : ℕ) (b c : Bool) → 2 * m + cond b 1 0 ≡ 2 * n + cond c 1 0 → (m ≡ n) × (b ≡ c)
halves m n true true e = (omega (arith, e), refl)
halves m n true false e = absurd (omega (arith, e))
halves m n false true e = absurd (omega (arith, e))
halves m n false false e = (omega (arith, e), refl)

-- the digits tell the tests
pub same_mask : (f : List Factor → List Factor) (s t : List Factor → Bool) (cs ds : List (List Factor)) (m n : ℕ) → ds ≡ map f cs → mask_from m s cs ≡ mask_from n t ds → (m ≡ n) × (filter t ds ≡ map f (filter s cs))
same_mask f s t [] ds m n e k = (k ∙ ap (mask_from n t) e, ap (filter t) e)
same_mask f s t (c ∷ cs) ds m n e k =
    let w = same_mask f s t cs (map f cs) (2 * m + cond (s c) 1 0) (2 * n + cond (t (f c)) 1 0) refl (k ∙ ap (mask_from n t) e) in
    let h = halves m n (s c) (t (f c)) w.0 in
    (h.0, ap (filter t) e ∙ ap (λ b. cond b (f c ∷ filter t (map f cs)) (filter t (map f cs))) (sym h.1) ∙ kept (s c) (filter t (map f cs)) w.1)
  where
    kept : (b : Bool) (us : List (List Factor)) → us ≡ map f (filter s cs) → cond b (f c ∷ us) us ≡ map f (cond b (c ∷ filter s cs) (filter s cs))
    kept true us e = ap (λ (xs : List (List Factor)). f c ∷ xs) e
    kept false us e = e

-- at each item of the one list
same_test : (f : List Factor → List Factor) (s t : List Factor → Bool) (cs : List (List Factor)) (m n : ℕ) → mask_from m s cs ≡ mask_from n t (map f cs) → (c : List Factor) → In cs c → s c ≡ t (f c)
same_test f s t [] m n k c i = absurd i
same_test f s t (d ∷ cs) m n k c i =
    let w = same_mask f s t cs (map f cs) (2 * m + cond (s d) 1 0) (2 * n + cond (t (f d)) 1 0) refl k in
    ⊎_elim
    (λ e. subst (λ (v : List Factor). s v ≡ t (f v)) e (halves m n (s d) (t (f d)) w.0).1)
    (λ h. same_test f s t cs (2 * m + cond (s d) 1 0) (2 * n + cond (t (f d)) 1 0) k c h)
    i

-- ---- what is told of one is told of all

closed_cells : (q : List Factor) (t : List Factor → Bool) → IsClosedIn q t → IsClosedList (cells_in t q)
closed_cells q t inner c r f w =
    let v = cells_in-face t q c (In_has (cells_in t q) c (In-from (cells_in t q) c w)) in
    from-In (cells_in t q) r (has_In (cells_in t q) r (face-cells_in t q r (face_trans q c r v.0 f) (inner c r v.0 f v.1)))

moved_back : (vs : List ℤ) (cs : List (List Factor)) → map (moved (map neg_ℤ vs)) (map (moved vs) cs) ≡ cs
moved_back vs [] = refl
moved_back vs (c ∷ cs) = λ j. back vs c j ∷ moved_back vs cs j

self : (q : List Factor) → In (closure_of q) q
self q = In-from (closure_of q) q ((closures_are_faces.faces q q).1 (face_refl q))

pub tells : (p : ℕ) (q : List Factor) (s : List Factor → Bool) (b : Bool) → list_all is_wide q ≡ true → IsClosedIn q s → IsTrue b ↔ IsMovableInto p s q → Tells p (length q) (mask_from 0 s (closure_of q)) b
tells p q s b wide inner told r t long wider closed mask =
    let vs = differences q r in
    let to : moved vs q ≡ r = moves_to q r (sym long) wide wider in
    let closures : closure_of r ≡ map (moved vs) (closure_of q) = ap closure_of (sym to) ∙ closure-moved vs q in
    let cells : cells_in t r ≡ map (moved vs) (cells_in s q) = (same_mask (moved vs) s t (closure_of q) (closure_of r) 0 0 closures (sym mask)).1 in
    let whole : s q ≡ t r = same_test (moved vs) s t (closure_of q) 0 0 (sym mask ∙ ap (mask_from 0 t) closures) q (self q) ∙ ap t to in
    let here = lists_and_sets p (cells_in s q) (closed_cells q s inner) (cells_in_once s q) in
    let there = lists_and_sets p (cells_in t r) (closed_cells r t closed) (cells_in_once t r) in (
      (λ e. let m = told.0 e in record {
        new = sym whole ∙ m.new;
        acyclic = there.1 (subst (λ (cs : List (List Factor)). IsAcyclicList p cs) (sym cells) (acyclic_moved p vs (cells_in s q) (here.0 m.acyclic)));
      }),
      (λ m. told.1 (record {
        new = whole ∙ m.new;
        acyclic = here.1 (subst (λ (cs : List (List Factor)). IsAcyclicList p cs) (ap (map (moved (map neg_ℤ vs))) cells ∙ moved_back vs (cells_in s q)) (acyclic_moved p (map neg_ℤ vs) (cells_in t r) (there.0 m.acyclic)));
      })),
    )

-- ---- one more answer

some_parts : (x y : Bool) → ◌≡◌ {A = Option Bool} (Some x) (Some y) → x ≡ y
some_parts x y e = cc

pub known_more : (p n : ℕ) (old new : BTreeMap ℕ Bool) (mask : ℕ) (b : Bool) → AreKnown p n old → Tells p n mask b → Updates nat_cmp old new mask (Some b) → AreKnown p n new
known_more p n old new mask b known told u k c e = ⊎_elim
    (λ q.
    let here : get nat_cmp new k ≡ Some b = u.0 k ∙ ap (λ v. cond v (Some b) (get nat_cmp old k)) (ap (λ (m : ℕ). is_at (nat_cmp m) k) (sym q) ∙ at_same k) in
    subst (λ (d : Bool). Tells p n k d) (some_parts b c (sym here ∙ e)) (subst (λ (m : ℕ). Tells p n m b) (sym q) told))
    (λ d. known k c (sym (u.0 k ∙ ap (λ v. cond v (Some b) (get nat_cmp old k)) (at_other mask k (λ q. d (sym q)))) ∙ e))
    (cases_eq k mask)

pub known_alike : (p m n : ℕ) (answers : BTreeMap ℕ Bool) → m ≡ n → AreKnown p m answers → AreKnown p n answers
known_alike p m n answers e known = subst (λ (k : ℕ). AreKnown p k answers) e known

pub none_known : (p n : ℕ) (answers : BTreeMap ℕ Bool) → ((mask : ℕ) → get nat_cmp answers mask ≡ None) → AreKnown p n answers
none_known p n answers none mask b e = absurd (different b (sym (none mask) ∙ e))
  where
    different : (c : Bool) → ◌≢◌ {A = Option Bool} None (Some c)
    different c e = cc
