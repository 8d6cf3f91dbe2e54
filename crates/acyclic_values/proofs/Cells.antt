-- Cells of sets, lists of cells, and sums over them.
use Rattle.std.proofs.Common.{◌≡◌, ℕ, ◌*◌, ◌<◌, ◌⊎◌, inl, inr, refl, sym, ap, ◌∙◌, arith, ⊎_elim, List, [], ◌∷◌, length, filter, Bool, true, false, cond, ◌&&◌, ◌||◌, subst}
use Rattle.std.specs.List.{list_any, list_all}
use Rattle.std.proofs.lemmas.Bool.{true≢false, cases_Bool, or_cases, and_parts}
use Rattle.field_mod.specs.Sums.{total}
use Rattle.field_mod.specs.Modular.{Same}
use Rattle.field_mod.proofs.Sums.{total-same, total_same, total-scale, total-swap}
use Rattle.field_mod.proofs.Modular.{same_sym, same_trans}
use Rattle.elem_cubes.specs.Cells.{Factor, point, interval, low, dimension_of}
use Rattle.elem_cubes.specs.Faces.{IsFace, is_face}
use Rattle.elem_cubes.specs.Laws.{cell_at}
use Rattle.elem_cubes.proofs.Modular.{exact}
use Rattle.elem_cubes.proofs.Members.{In}
use Rattle.elem_cubes.proofs.Boundaries.{at_cell, spread}
use Rattle.cube_sets.specs.Closures.{is_cell_of, cells_of}
use Rattle.cube_sets.proofs.Covering.{cells_are_faces}
use Rattle.cell_complex.specs.RelativeComplex.{restriction_to}
use Rattle.cell_complex.specs.Numbering.{IsListing}
use Rattle.cell_complex.proofs.Squares.{restriction-on, restriction-off}
use Rattle.cell_complex.proofs.Numbering.{listed, found}
use Rattle.cell_complex.proofs.Deciding.{face_true, face_from, has_is, has_from, from_has, same_cell_sym}
use Rattle.cell_complex.proofs.Sorting.{apart}
use Rattle.cell_complex.specs.Acyclic.{sum_over}

-- ---- lists

pub all_In : {X : Type 0} (p : X → Bool) (xs : List X) → list_all p xs ≡ true → (x : X) → In xs x → p x ≡ true
all_In p [] h x w = absurd w
all_In p (y ∷ ys) h x (inl e) = ap p (sym e) ∙ (and_parts (p y) (list_all p ys) h).0
all_In p (y ∷ ys) h x (inr w) = all_In p ys (and_parts (p y) (list_all p ys) h).1 x w

pub In_all : {X : Type 0} (p : X → Bool) (xs : List X) → ((x : X) → In xs x → p x ≡ true) → list_all p xs ≡ true
In_all p [] h = refl
In_all p (y ∷ ys) h = ap (λ b. b && list_all p ys) (h y (inl refl)) ∙ In_all p ys (λ x w. h x (inr w))

pub any_In : {X : Type 0} (p : X → Bool) (xs : List X) → list_any p xs ≡ true → (x : X) × In xs x × (p x ≡ true)
any_In p [] h = absurd (true≢false (sym h))
any_In p (y ∷ ys) h = ⊎_elim (λ e. (y, inl refl, e)) (λ e. let w = any_In p ys e in (w.0, inr w.1, w.2)) (or_cases (p y) (list_any p ys) h)

pub In_any : {X : Type 0} (p : X → Bool) (xs : List X) (x : X) → In xs x → p x ≡ true → list_any p xs ≡ true
In_any p [] x w e = absurd w
In_any p (y ∷ ys) x (inl q) e = ap (λ b. b || list_any p ys) (ap p q ∙ e)
In_any p (y ∷ ys) x (inr w) e = either (p y) (list_any p ys) (In_any p ys x w e)
  where
    either : (a b : Bool) → b ≡ true → (a || b) ≡ true
    either true b e = refl
    either false b e = e

pub filter_In : {X : Type 0} (p : X → Bool) (xs : List X) (x : X) → In (filter p xs) x → In xs x × (p x ≡ true)
filter_In p [] x w = absurd w
filter_In {X} p (y ∷ ys) x w = ⊎_elim
    (λ e. let h : In (y ∷ filter p ys) x = let P : Bool → Type 0 = λ b. In (cond b (y ∷ filter p ys) (filter p ys)) x in subst P e w in
    ⊎_elim (λ q. (inl q, ap p (sym q) ∙ e)) (λ r. let k = filter_In p ys x r in (inr k.0, k.1)) h)
    (λ e. let h : In (filter p ys) x = let P : Bool → Type 0 = λ b. In (cond b (y ∷ filter p ys) (filter p ys)) x in subst P e w in let k = filter_In p ys x h in (inr k.0, k.1))
    (cases_Bool (p y))

pub In_filter : {X : Type 0} (p : X → Bool) (xs : List X) (x : X) → In xs x → p x ≡ true → In (filter p xs) x
In_filter p [] x w e = absurd w
In_filter {X} p (y ∷ ys) x w e = ⊎_elim
    (λ q. let P : Bool → Type 0 = λ b. In (cond b (y ∷ filter p ys) (filter p ys)) x in subst P (sym (ap p q ∙ e)) (inl q))
    (λ r. let k = In_filter p ys x r e in let P : Bool → Type 0 = λ b. In (cond b (y ∷ filter p ys) (filter p ys)) x in ⊎_elim (λ t. subst P (sym t) (inr k)) (λ t. subst P (sym t) k) (cases_Bool (p y)))
    w

-- ---- cells of sets

pub cell_in : (x : List (List Factor)) (g : List Factor) → is_cell_of x g ≡ true → (q : List Factor) × In x q × IsFace q g
cell_in x g h = let w = any_In (λ s. is_face s g) x h in (w.0, w.1, face_true w.0 g w.2)

pub cell_from : (x : List (List Factor)) (q g : List Factor) → In x q → IsFace q g → is_cell_of x g ≡ true
cell_from x q g w f = In_any (λ s. is_face s g) x q w (face_from q g f)

-- the cells of a set, in order
pub cells_listing : (x : List (List Factor)) → IsListing (is_cell_of x) (cells_of x)
cells_listing x = record {
  members = λ q. (
    λ h. from_has (cells_of x) q (sym (has_is (cells_of x) q) ∙ cells_are_faces.faces x q ∙ h),
    λ w. sym (cells_are_faces.faces x q) ∙ has_is (cells_of x) q ∙ has_from (cells_of x) q w,
  );
  once = apart (cells_of x) (cells_are_faces.sorted x);
}

-- the lowest vertex of a cell
abbrev pub corner : List Factor → List Factor
corner [] = []
corner (f ∷ fs) = point (low f) ∷ corner fs

pub corner_face : (q : List Factor) → IsFace q (corner q)
corner_face [] = tt
corner_face (point l ∷ qs) = (refl, corner_face qs)
corner_face (interval l ∷ qs) = (inl refl, corner_face qs)

pub corner_dimension : (q : List Factor) → dimension_of (corner q) ≡ 0
corner_dimension [] = refl
corner_dimension (f ∷ fs) = corner_dimension fs

-- ---- sums

-- the sum over all cells is that over those where the chain is not 0
pub sum_within : (p : ℕ) (S T : List Factor → Bool) (ss ts : List (List Factor)) → IsListing S ss → IsListing T ts → ((q : List Factor) → S q ≡ true → T q ≡ true)
    → (z : List Factor → ℕ) → ((q : List Factor) → S q ≡ false → Same p (z q) 0) → Same p (sum_over ts z) (sum_over ss z)
sum_within p S T ss ts ls lt sub z off =
    let n = length ss in
    let m = length ts in
    let f : List Factor → ℕ = restriction_to S z in
    let a = total_same p m (λ i. z (cell_at ts i)) (λ i. f (cell_at ts i)) (λ i _. kept (cell_at ts i)) in
    let b = total-same m (λ i. f (cell_at ts i)) (λ i. total n (λ j. f (cell_at ss j) * at_cell (cell_at ss j) (cell_at ts i))) (λ i _. sym (spread n (cell_at ss) f (cell_at ts i) ls.once (either (cell_at ts i)))) in
    let c = total-swap m n (λ i j. f (cell_at ss j) * at_cell (cell_at ss j) (cell_at ts i)) in
    let d = total-same n (λ j. total m (λ i. f (cell_at ss j) * at_cell (cell_at ss j) (cell_at ts i))) (λ j. f (cell_at ss j)) (λ j l. total-scale m (f (cell_at ss j)) (λ i. at_cell (cell_at ss j) (cell_at ts i)) ∙ ap (λ v. f (cell_at ss j) * v) (one (cell_at ss j) (sub (cell_at ss j) (listed S ss ls j l))) ∙ omega arith) in
    let e = total_same p n (λ j. f (cell_at ss j)) (λ j. z (cell_at ss j)) (λ j _. same_sym (kept (cell_at ss j))) in
    same_trans a (same_trans (exact p (b ∙ c ∙ d)) e)
  where
    kept : (q : List Factor) → Same p (z q) (restriction_to S z q)
    kept q = ⊎_elim (λ e. exact p (sym (restriction-on S z q e))) (λ e. same_trans (off q e) (exact p (sym (restriction-off S z q e)))) (cases_Bool (S q))

    either : (q : List Factor) → ((i : ℕ) × (i < length ss) × (cell_at ss i ≡ q)) ⊎ (restriction_to S z q ≡ 0)
    either q = ⊎_elim (λ e. inl (found S ss ls q e)) (λ e. inr (restriction-off S z q e)) (cases_Bool (S q))

    one : (v : List Factor) → T v ≡ true → total (length ts) (λ i. at_cell v (cell_at ts i)) ≡ 1
    one v h =
        total-same (length ts) (λ i. at_cell v (cell_at ts i)) (λ i. 1 * at_cell (cell_at ts i) v) (λ i _. ap (λ b. cond b 1 0) (same_cell_sym (cell_at ts i) v) ∙ omega arith)
        ∙ spread (length ts) (cell_at ts) (λ _. 1) v lt.once (inl (found T ts lt v h))
