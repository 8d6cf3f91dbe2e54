-- The faces of a cell by their numbers: which are gone, which are left, and whose they are
use Rattle.std.proofs.Common.{◌≡◌, ◌↔◌, ℕ, ◌+◌, ◌*◌, ◌<◌, ◌⊎◌, inl, inr, refl, sym, ap, ◌∙◌, arith, ⊎_elim, List, [], ◌∷◌, ◌++◌, length, take, get_or, map, Bool, true, false, cond, ◌&&◌, subst, ltb}
use Rattle.std.specs.Prelude.{not, slice_get, Some}
use Rattle.std.specs.List.{Contains, filter}
use Rattle.std.specs.Cmp as cmp
use Rattle.std.proofs.lemmas.Bool.{true≢false, cases_Bool, and_parts, and_from, ltb-true, lt-ltb}
use Rattle.std.proofs.lemmas.List.{get_or_default, get_or-map, map-append, take_more}
use Rattle.std.proofs.lemmas.List.Sums.{position_or_len_is}
use Rattle.elem_cubes.specs.Cells.{Factor, same_cell}
use Rattle.elem_cubes.specs.Faces.{IsFace, closure_of}
use Rattle.elem_cubes.specs.Order.{cell_cmp}
use Rattle.elem_cubes.specs.OrderLemmas.{cell_cases}
use Rattle.elem_cubes.specs.Laws.{cell_at}
use Rattle.elem_cubes.proofs.Listing.{closures_are_faces}
use Rattle.elem_cubes.proofs.Members.{In, In-from, from-In, In-map, map-In}
use Rattle.cube_sets.specs.Sorted.{has}
use Rattle.algebraic_reduction.specs.Reduction.{Step, IsUnpaired}
use Rattle.cell_complex.specs.Sorted.{IsSortedCells}
use Rattle.cell_complex.specs.Numbering.{number_of}
use Rattle.cell_complex.proofs.Numbering.{number_at}
use Rattle.excision.specs.Known.{mask_from}
use Rattle.excision.specs.Left.{is_unpaired, is_left, is_gone, IsLeftFace}
use Rattle.excision.specs.Numbers.{face_numbers, is_taken}
use Rattle.excision.proofs.Leaving.{listing, place_of_cell, unpaired_test, test_unpaired}

-- ---- the number of a cell

pub number_found : (cells : List (List Factor)) (c : List Factor) (n : ℕ) → IsSortedCells cells → slice_get cells n ≡ Some c → n ≡ number_of cells c
number_found cells c n sorted place =
    let w = place_of_cell cells n c place in
    sym (ap (number_of cells) (sym w.1) ∙ number_at (has cell_cmp cells) cells (listing cells sorted) n w.0)

pub number_missing : (cells : List (List Factor)) (c : List Factor) → ¬ Contains cells c → number_of cells c ≡ length cells
number_missing cells c none = position_or_len_is (same_cell c) cells (length cells) [] (omega arith)
    (λ k below. ⊎_elim (λ e. absurd (none (k, below, get_or_default cells k c [] below ∙ sym e))) (λ f. f) (cell_cases c (cell_at cells k)))
    (λ l. absurd (omega arith))

filter_In : {X : Type 0} (p : X → Bool) (xs : List X) (x : X) → In (filter p xs) x → In xs x × (p x ≡ true)
filter_In p [] x w = absurd w
filter_In {X} p (y ∷ ys) x w = ⊎_elim
    (λ e. let h : In (y ∷ filter p ys) x = let P : Bool → Type 0 = λ b. In (cond b (y ∷ filter p ys) (filter p ys)) x in subst P e w in
    ⊎_elim (λ q. (inl q, ap p (sym q) ∙ e)) (λ r. let k = filter_In p ys x r in (inr k.0, k.1)) h)
    (λ e. let h : In (filter p ys) x = let P : Bool → Type 0 = λ b. In (cond b (y ∷ filter p ys) (filter p ys)) x in subst P e w in let k = filter_In p ys x h in (inr k.0, k.1))
    (cases_Bool (p y))

In_filter : {X : Type 0} (p : X → Bool) (xs : List X) (x : X) → In xs x → p x ≡ true → In (filter p xs) x
In_filter p [] x w e = absurd w
In_filter {X} p (y ∷ ys) x w e = ⊎_elim
    (λ q. let P : Bool → Type 0 = λ b. In (cond b (y ∷ filter p ys) (filter p ys)) x in subst P (sym (ap p q ∙ e)) (inl q))
    (λ r. let k = In_filter p ys x r e in let P : Bool → Type 0 = λ b. In (cond b (y ∷ filter p ys) (filter p ys)) x in ⊎_elim (λ t. subst P (sym t) (inr k)) (λ t. subst P (sym t) k) (cases_Bool (p y)))
    w

pub taken_told : (count : ℕ) (ss : List Step) (n : ℕ) (b : Bool) → n < count → ((b ≡ true → IsUnpaired ss n) × (IsUnpaired ss n → b ≡ true)) → not b ≡ is_taken count ss n
taken_told count ss n b l h = ap not (cmp.both_ways b (ltb n count && is_unpaired ss n)
    (λ e. and_from (ltb n count) (is_unpaired ss n) (lt-ltb n count l) (test_unpaired ss n (h.0 e)))
    (λ e. h.1 (unpaired_test ss n (and_parts (ltb n count) (is_unpaired ss n) e).1)))

not_not : (b : Bool) → not (not b) ≡ b
not_not true = refl
not_not false = refl

module _ (cells : List (List Factor)) (sorted : IsSortedCells cells) where
  -- a cell whose number is below the count is there
  numbered : (c : List Factor) → number_of cells c < length cells → (has cell_cmp cells c ≡ true) × (cell_at cells (number_of cells c) ≡ c)
  numbered c l = ⊎_elim
      (λ e. (e, Rattle.cell_complex.proofs.Numbering.at_number (has cell_cmp cells) cells (listing cells sorted) c e))
      (λ f. let m = number_missing cells c (λ w. true≢false (sym (((listing cells sorted).members c).1 w) ∙ f)) in absurd (omega (arith, l, m)))
      (cases_Bool (has cell_cmp cells c))

  -- ---- what is gone

  pub taken_gone : (ss : List Step) (count : ℕ) (c : List Factor) → count ≡ length cells → is_taken count ss (number_of cells c) ≡ is_gone cells ss c
  taken_gone ss count c e = ap not (cmp.both_ways (ltb n count && is_unpaired ss n) (is_left cells ss c)
      (λ t. let w = and_parts (ltb n count) (is_unpaired ss n) t in
      and_from (has cell_cmp cells c) (is_unpaired ss n) (numbered c (subst (λ (m : ℕ). n < m) e (ltb-true n count w.0))).0 w.1)
      (λ t. let w = and_parts (has cell_cmp cells c) (is_unpaired ss n) t in
      and_from (ltb n count) (is_unpaired ss n) (lt-ltb n count (subst (λ (m : ℕ). n < m) (sym e) (Rattle.cell_complex.proofs.Numbering.number_within (has cell_cmp cells) cells (listing cells sorted) c w.0))) w.1))
    where
      n : ℕ
      n = number_of cells c

  pub mask_told : (ss : List Step) (count : ℕ) (q : List Factor) (faces : List ℕ) → count ≡ length cells → faces ≡ face_numbers cells q → mask_from 0 (is_taken count ss) faces ≡ mask_from 0 (is_gone cells ss) (closure_of q)
  unfolding face_numbers
  mask_told ss count q faces e f = ap (mask_from 0 (is_taken count ss)) f ∙ over 0 (closure_of q)
    where
      over : (m : ℕ) (cs : List (List Factor)) → mask_from m (is_taken count ss) (map (number_of cells) cs) ≡ mask_from m (is_gone cells ss) cs
      over m [] = refl
      over m (c ∷ cs) = ap (λ b. mask_from (2 * m + cond b 1 0) (is_taken count ss) (map (number_of cells) cs)) (taken_gone ss count c e) ∙ over (2 * m + cond (is_gone cells ss c) 1 0) cs

  -- ---- whose they are

  pub number_face : (q : List Factor) (n : ℕ) → n < length cells → IsFace q (cell_at cells n) → Contains (face_numbers cells q) n
  unfolding face_numbers
  number_face q n l f = from-In (map (number_of cells) (closure_of q)) n
      (subst (λ (k : ℕ). In (map (number_of cells) (closure_of q)) k) (number_at (has cell_cmp cells) cells (listing cells sorted) n l)
      (map-In (number_of cells) (closure_of q) (cell_at cells n) (In-from (closure_of q) (cell_at cells n) ((closures_are_faces.faces q (cell_at cells n)).1 f))))

  face_of_number : (q : List Factor) (n : ℕ) → n < length cells → In (face_numbers cells q) n → IsFace q (cell_at cells n)
  unfolding face_numbers
  face_of_number q n l i =
      let w = In-map (number_of cells) (closure_of q) n i in
      let k = numbered w.0 (subst (λ (m : ℕ). m < length cells) (sym w.2) l) in
      let P : List Factor → Type 0 = λ d. IsFace q d in
      subst P (sym k.1 ∙ ap (cell_at cells) w.2) ((closures_are_faces.faces q w.0).0 (from-In (closure_of q) w.0 w.1))

  pub left_are : (ss : List Step) (count : ℕ) (q : List Factor) (ns ms : List ℕ) → count ≡ length cells → ns ≡ face_numbers cells q → ms ≡ filter (λ n. not (is_taken count ss n)) ns → (n : ℕ) → Contains ms n ↔ IsLeftFace cells ss q n
  left_are ss count q ns ms e f g n = (
    (λ w.
        let i = filter_In (λ n. not (is_taken count ss n)) ns n (subst (λ (xs : List ℕ). In xs n) g (In-from ms n w)) in
        let t = and_parts (ltb n count) (is_unpaired ss n) (sym (not_not (ltb n count && is_unpaired ss n)) ∙ i.1) in
        let l : n < length cells = subst (λ (m : ℕ). n < m) e (ltb-true n count t.0) in
        record {
          inside = l;
          face = face_of_number q n l (subst (λ (xs : List ℕ). In xs n) f i.0);
          alive = unpaired_test ss n t.1;
        }),
    (λ w. from-In ms n (subst (λ (xs : List ℕ). In xs n) (sym g) (In_filter (λ n. not (is_taken count ss n)) ns n
        (subst (λ (xs : List ℕ). In xs n) (sym f) (In-from (face_numbers cells q) n (number_face q n w.inside w.face)))
        (not_not (ltb n count && is_unpaired ss n) ∙ and_from (ltb n count) (is_unpaired ss n) (lt-ltb n count (subst (λ (m : ℕ). n < m) (sym e) w.inside)) (test_unpaired ss n w.alive))))),
  )

-- ---- the lists of all members

pub list_of : (cells x : List (List Factor)) (faces : List (List ℕ)) (i : ℕ) → faces ≡ map (face_numbers cells) x → i < length x → get_or faces i [] ≡ face_numbers cells (cell_at x i)
list_of cells x faces i e l = ap (λ (fs : List (List ℕ)). get_or fs i []) e ∙ get_or-map (face_numbers cells) x i [] [] l

pub lists_more : {A : Type 0} (f : A → List ℕ) (g : List Factor → List ℕ) (rows now : List A) (row : A) (xs : List (List Factor)) (i : ℕ) (c : List Factor) → i < length xs → c ≡ get_or xs i c → now ≡ rows ++ row ∷ [] → f row ≡ g c → map f rows ≡ map g (take i xs) → map f now ≡ map g (take (i + 1) xs)
lists_more f g rows now row xs i c l read more made e =
    ap (map f) more ∙ map-append f rows (row ∷ []) ∙ ap (λ (ls : List (List ℕ)). ls ++ f row ∷ []) e ∙ ap (λ (k : List ℕ). map g (take i xs) ++ k ∷ []) (made ∙ ap g (read ∙ get_or_default xs i c [] l))
    ∙ sym (ap (map g) (take_more xs i [] l) ∙ map-append g (take i xs) (get_or xs i [] ∷ []))

-- the faces of a cell that are still to come and the numbers so far
pub numbers_next : (g : List Factor → ℕ) (all : List ℕ) (numbers now : List ℕ) (rest next : List (List Factor)) (c : List Factor) (n : ℕ) → rest ≡ c ∷ next → n ≡ g c → now ≡ numbers ++ n ∷ [] → numbers ++ map g rest ≡ all → now ++ map g next ≡ all
numbers_next g all numbers now rest next c n e f h r =
    ap (λ (ns : List ℕ). ns ++ map g next) h ∙ Rattle.std.proofs.Common.append_assoc numbers (n ∷ []) (map g next) ∙ ap (λ (k : ℕ). numbers ++ k ∷ map g next) f ∙ sym (ap (λ (cs : List (List Factor)). numbers ++ map g cs) e) ∙ r

pub numbers_end : (g : List Factor → ℕ) (all : List ℕ) (numbers : List ℕ) (rest : List (List Factor)) → rest ≡ [] → numbers ++ map g rest ≡ all → numbers ≡ all
numbers_end g all numbers rest e r = sym (ap (λ (cs : List (List Factor)). numbers ++ map g cs) e ∙ nothing numbers) ∙ r
  where
    nothing : (xs : List ℕ) → xs ++ [] ≡ xs
    nothing [] = refl
    nothing (x ∷ xs) = ap (λ (ys : List ℕ). x ∷ ys) (nothing xs)
