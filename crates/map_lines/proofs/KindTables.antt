-- The kinds of those of all cells that a value has, as they are told in one pass over all cells.
use Rattle.std.proofs.Common.{◌≡◌, ℕ, zero, suc, ◌+◌, ◌<◌, ◌≤◌, refl, sym, ap, ◌∙◌, arith, ⊎_elim, List, [], ◌∷◌, ◌++◌, length, get_or, map, take, drop, filter, Bool, true, cond, subst}
use Rattle.std.proofs.lemmas.Bool.{cases_Bool}
use Rattle.std.proofs.lemmas.List.{map-append, get_or-map, length-map, take_all}
use Rattle.std.proofs.lemmas.List.Elements.{Contains-get_or}
use Rattle.std.specs.List.{Contains}
use Rattle.elem_cubes.specs.Cells.{Factor, dimension_of}
use Rattle.elem_cubes.specs.Laws.{cell_at}
use Rattle.cube_sets.specs.Closures.{is_cell_of, cells_of}
use Rattle.cell_complex.specs.Numbering.{number_of}
use Rattle.cell_complex.proofs.Numbering.{number_at, at_number}
use Rattle.acyclic_values.proofs.Cells.{cells_listing}
use Rattle.witness_writing.proofs.Counting.{in_filtered}
use Rattle.witness_reading.specs.Kinds.{kinds_where}
use Rattle.witness_reading.proofs.Naming.{test_of}

-- the kinds of the first cells are told, and the rest of the value is left
pub record AreKinds (on : List Factor → Bool) (all value : List (List Factor)) (cell place : ℕ) (kinds : List ℕ) : Type 0 where
  pub told : kinds ≡ kinds_where on (take cell all)
  pub left : filter on (drop cell all) ≡ drop place value

-- for each test that the value meets
abbrev pub AreKindsOf : List (List Factor) → List (List Factor) → ℕ → ℕ → List ℕ → Type 0
AreKindsOf all value cell place kinds =
    (on : List Factor → Bool) (range : List (List Factor)) → all ≡ cells_of range → value ≡ filter on all → AreKinds on all value cell place kinds

drop_at : (xs : List (List Factor)) (i : ℕ) → i < length xs → drop i xs ≡ cell_at xs i ∷ drop (suc i) xs
drop_at [] i l = absurd (omega arith)
drop_at (x ∷ xs) zero l = refl
drop_at (x ∷ xs) (suc i) l = drop_at xs i (omega arith)

take_at : (xs : List (List Factor)) (i : ℕ) → i < length xs → take (suc i) xs ≡ take i xs ++ cell_at xs i ∷ []
take_at [] i l = absurd (omega arith)
take_at (x ∷ xs) zero l = refl
take_at (x ∷ xs) (suc i) l = ap (λ (t : List (List Factor)). x ∷ t) (take_at xs i (omega arith))

head_of : (xs : List (List Factor)) (i : ℕ) (r : List Factor) (rs : List (List Factor)) → r ∷ rs ≡ drop i xs → (i < length xs) × (cell_at xs i ≡ r) × (rs ≡ drop (suc i) xs)
head_of [] zero r rs e = absurd (let q : suc (length rs) ≡ 0 = ap length e in omega arith)
head_of [] (suc i) r rs e = absurd (let q : suc (length rs) ≡ 0 = ap length e in omega arith)
head_of (x ∷ xs) zero r rs e = (omega arith, ap (λ (t : List (List Factor)). get_or t 0 x) (sym e), ap (drop 1) e)
head_of (x ∷ xs) (suc i) r rs e = let w = head_of xs i r rs e in (let l = w.0 in omega arith, w.1, w.2)

module _ (on : List Factor → Bool) (range all value : List (List Factor)) (all_is : all ≡ cells_of range) (value_is : value ≡ filter on all) (numbers : List ℕ)
    (numbers_are : numbers ≡ map (λ q. suc (number_of all q)) value) (cell place : ℕ) (within : cell < length all) (kinds : List ℕ) (h : AreKinds on all value cell place kinds) where
  abbrev r : List Factor
  r = cell_at all cell

  rest_is : filter on (drop cell all) ≡ cond (on r) (r ∷ filter on (drop (suc cell) all)) (filter on (drop (suc cell) all))
  rest_is = ap (filter on) (drop_at all cell within)

  more_kinds : (more : List ℕ) (k : ℕ) → more ≡ kinds ++ k ∷ [] → k ≡ cond (on r) (suc (dimension_of r)) 0 → more ≡ kinds_where on (take (suc cell) all)
  more_kinds more k e f =
      e ∙ ap (λ (l : List ℕ). l ++ k ∷ []) h.told ∙ ap (λ (n : ℕ). kinds_where on (take cell all) ++ n ∷ []) f
      ∙ sym (map-append (λ q. cond (on q) (suc (dimension_of q)) 0) (take cell all) (r ∷ [])) ∙ sym (ap (kinds_where on) (take_at all cell within))

  number_here : number_of all r ≡ cell
  number_here = subst (λ (l : List (List Factor)). cell < length l → number_of l (cell_at l cell) ≡ cell) (sym all_is)
      (λ l. number_at (is_cell_of range) (cells_of range) (cells_listing range) cell l) within

  -- the cell of a number
  cell_of_number : (v : List Factor) → Contains all v → cell_at all (number_of all v) ≡ v
  cell_of_number v w = subst (λ (l : List (List Factor)). Contains l v → cell_at l (number_of l v) ≡ v) (sym all_is)
      (λ u. at_number (is_cell_of range) (cells_of range) (cells_listing range) v (((cells_listing range).members v).1 u)) w

  -- the next cell of the value is this one
  module _ (short : place < length numbers) (next : get_or numbers place 0 ≡ cell + 1) where
    abbrev v : List Factor
    v = cell_at value place

    inside : place < length value
    inside = let e : length numbers ≡ length value = ap length numbers_are ∙ length-map value (λ q. suc (number_of all q)) in omega arith

    in_value : Contains (filter on all) v
    in_value = subst (λ (l : List (List Factor)). Contains l v) value_is (Contains-get_or value place [] inside)

    number_is : number_of all v ≡ cell
    number_is =
        let e : suc (number_of all v) ≡ cell + 1 = sym (get_or-map (λ q. suc (number_of all q)) value place [] 0 inside) ∙ ap (λ (l : List ℕ). get_or l place 0) (sym numbers_are) ∙ next in
        omega arith

    same : v ≡ r
    same = sym (cell_of_number v (in_filtered on all v in_value)) ∙ ap (cell_at all) number_is

    on_it : on r ≡ true
    on_it = ap on (sym same) ∙ test_of on all v in_value

    pub kinds_more : (more : List ℕ) (k : ℕ) → k ≡ suc (dimension_of v) → more ≡ kinds ++ k ∷ [] → AreKinds on all value (suc cell) (suc place) more
    kinds_more more k e f =
        let s : r ∷ filter on (drop (suc cell) all) ≡ drop place value = sym (rest_is ∙ ap (λ b. cond b (r ∷ filter on (drop (suc cell) all)) (filter on (drop (suc cell) all))) on_it) ∙ h.left in
        record {
          told = more_kinds more k f (e ∙ ap (λ q. suc (dimension_of q)) same ∙ sym (ap (λ b. cond b (suc (dimension_of r)) 0) on_it));
          left = (head_of value place r (filter on (drop (suc cell) all)) s).2;
        }

  -- or it is another one
  module _ (other : (place < length numbers) × (get_or numbers place 0 ≡ cell + 1) → ⊥) where
    off : on r ≡ true → ⊥
    off t =
        let s : r ∷ filter on (drop (suc cell) all) ≡ drop place value = sym (rest_is ∙ ap (λ b. cond b (r ∷ filter on (drop (suc cell) all)) (filter on (drop (suc cell) all))) t) ∙ h.left in
        let w = head_of value place r (filter on (drop (suc cell) all)) s in
        let e : length numbers ≡ length value = ap length numbers_are ∙ length-map value (λ q. suc (number_of all q)) in
        let n : get_or numbers place 0 ≡ cell + 1 =
        ap (λ (l : List ℕ). get_or l place 0) numbers_are ∙ get_or-map (λ q. suc (number_of all q)) value place [] 0 w.0 ∙ ap (λ q. suc (number_of all q)) w.1 ∙ ap suc number_here
        ∙ (let q : suc cell ≡ cell + 1 = omega arith in q) in
        other (let l = w.0 in omega arith, n)

    pub kinds_skip : (more : List ℕ) → more ≡ kinds ++ 0 ∷ [] → AreKinds on all value (suc cell) place more
    kinds_skip more f = ⊎_elim
        (λ t. absurd (off t))
        (λ t. record {
          told = more_kinds more 0 f (sym (ap (λ b. cond b (suc (dimension_of r)) 0) t));
          left = sym (rest_is ∙ ap (λ b. cond b (r ∷ filter on (drop (suc cell) all)) (filter on (drop (suc cell) all))) t) ∙ h.left;
        })
        (cases_Bool (on r))

-- ---- for all tests

pub kinds_none : (all value : List (List Factor)) → AreKindsOf all value 0 0 []
kinds_none all value on range a e = record { told = refl; left = sym e }

pub kinds_taken : (all value : List (List Factor)) (numbers : List ℕ) (cell place : ℕ) (kinds more : List ℕ) (k : ℕ) → numbers ≡ map (λ q. suc (number_of all q)) value → cell < length all
    → (place < length numbers) × (get_or numbers place 0 ≡ cell + 1) → k ≡ suc (dimension_of (cell_at value place)) → more ≡ kinds ++ k ∷ [] → AreKindsOf all value cell place kinds
    → AreKindsOf all value (cell + 1) (place + 1) more
kinds_taken all value numbers cell place kinds more k n l t e f h on range a v =
    let c : cell + 1 ≡ suc cell = omega arith in
    let d : place + 1 ≡ suc place = omega arith in
    subst (λ (i : ℕ). AreKinds on all value i (place + 1) more) (sym c) (subst (λ (j : ℕ). AreKinds on all value (suc cell) j more) (sym d)
    (kinds_more on range all value a v numbers n cell place l kinds (h on range a v) t.0 t.1 more k e f))

pub kinds_passed : (all value : List (List Factor)) (numbers : List ℕ) (cell place : ℕ) (kinds more : List ℕ) → numbers ≡ map (λ q. suc (number_of all q)) value → cell < length all
    → ((place < length numbers) × (get_or numbers place 0 ≡ cell + 1) → ⊥) → more ≡ kinds ++ 0 ∷ [] → AreKindsOf all value cell place kinds → AreKindsOf all value (cell + 1) place more
kinds_passed all value numbers cell place kinds more n l t f h on range a v =
    let c : cell + 1 ≡ suc cell = omega arith in
    subst (λ (i : ℕ). AreKinds on all value i place more) (sym c)
    (kinds_skip on range all value a v numbers n cell place l kinds (h on range a v) t more f)

pub kinds_all : (all value : List (List Factor)) (cell place : ℕ) (kinds : List ℕ) → length all ≤ cell → AreKindsOf all value cell place kinds → (on : List Factor → Bool) (range : List (List Factor))
    → all ≡ cells_of range → value ≡ filter on all → kinds ≡ kinds_where on all
kinds_all all value cell place kinds l h on range a v = (h on range a v).told ∙ ap (kinds_where on) (take_all cell all l)
