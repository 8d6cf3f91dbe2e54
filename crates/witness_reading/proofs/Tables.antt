-- The tables of the cells of a pair, as they are made.
use Rattle.std.proofs.Common.{◌≡◌, ℕ, suc, ◌+◌, refl, sym, ap, ◌∙◌, ◌<◌, ◌≤◌, ⊎_elim, List, [], ◌∷◌, ◌++◌, ◌-◌, ◌^◌, length, map, take, arith, Bool, true, false, cond, subst}
use Rattle.std.proofs.lemmas.Bool.{cases_Bool}
use Rattle.std.proofs.lemmas.List.{take_more, map-append, take_all, length-map}
use Rattle.std.proofs.lemmas.List.Elements.{Contains-get_or}
use Rattle.std.specs.List.{Contains}
use Rattle.std.specs.Prelude.{Result, Ok, Err, IfErr}
use Rattle.elem_cubes.specs.Cells.{Factor, dimension_of}
use Rattle.elem_cubes.specs.Order.{cell_cmp}
use Rattle.elem_cubes.specs.Laws.{cell_at}
use Rattle.elem_cubes.proofs.Members.{In-from, from-In}
use Rattle.cube_sets.specs.Sorted.{has}
use Rattle.cube_sets.proofs.Spreads.{has_In, In_has}
use Rattle.cell_complex.specs.RelativeComplex.{is_relative}
use Rattle.cell_complex.specs.Numbering.{number_of}
use Rattle.witness_laws.specs.Lines.{each}
use Rattle.witness_laws.specs.Inputs.{all_cells, relative_cells}
use Rattle.witness_laws.proofs.Naming.{relative_listing}
use Rattle.witness_runs.specs.declared.miss.Stop.{Stop}
use Rattle.witness_runs.specs.declared.miss.Stop.TheVariants as stops
use Rattle.witness_reading.specs.Ends.{IfTold}
use Rattle.witness_reading.specs.Kinds.{kind_among, pair_table, pair_numbers, pair_wanted}

pub kind_some : (kept : List (List Factor)) (q : List Factor) → Contains kept q → kind_among kept q ≡ suc (dimension_of q)
kind_some kept q w = ap (λ b. cond b (suc (dimension_of q)) 0) (In_has kept q (In-from kept q w))

pub kind_none : (kept : List (List Factor)) (q : List Factor) → (Contains kept q → ⊥) → kind_among kept q ≡ 0
kind_none kept q h = ⊎_elim
    (λ e. absurd (h (from-In kept q (has_In kept q e))))
    (λ e. ap (λ b. cond b (suc (dimension_of q)) 0) e)
    (cases_Bool (has cell_cmp kept q))

same_tests : (a b : Bool) → (a ≡ true → b ≡ true) → (b ≡ true → a ≡ true) → a ≡ b
same_tests true b f g = sym (f refl)
same_tests false true f g = g refl
same_tests false false f g = refl

-- the relative cells are those that the test tells
has_is : (x a : List (List Factor)) (q : List Factor) → has cell_cmp (relative_cells x a) q ≡ is_relative x a q
has_is x a q = same_tests (has cell_cmp (relative_cells x a) q) (is_relative x a q)
    (λ e. ((relative_listing x a).members q).1 (from-In (relative_cells x a) q (has_In (relative_cells x a) q e)))
    (λ e. In_has (relative_cells x a) q (In-from (relative_cells x a) q (((relative_listing x a).members q).0 e)))

same_map : (f g : List Factor → ℕ) → ((q : List Factor) → f q ≡ g q) → (cells : List (List Factor)) → map f cells ≡ map g cells
same_map f g h [] = refl
same_map f g h (c ∷ cs) = ap (λ (n : ℕ). n ∷ map f cs) (h c) ∙ ap (λ (l : List ℕ). g c ∷ l) (same_map f g h cs)

map_by_place : (f : List Factor → ℕ) (cells : List (List Factor)) → map f cells ≡ each (length cells) (λ i. f (cell_at cells i) ∷ [])
map_by_place f [] = refl
map_by_place f (c ∷ cs) = ap (λ (l : List ℕ). f c ∷ l) (map_by_place f cs)

-- one cell more
pub put_more : (f : List Factor → ℕ) (cells : List (List Factor)) (i : ℕ) (xs ys : List ℕ) (n : ℕ) → i < length cells → n ≡ f (cell_at cells i) → ys ≡ xs ++ n ∷ []
    → xs ≡ map f (take i cells) → ys ≡ map f (take (i + 1) cells)
put_more f cells i xs ys n l e p h =
    p ∙ ap (λ (t : List ℕ). t ++ n ∷ []) h ∙ ap (λ (m : ℕ). map f (take i cells) ++ m ∷ []) e
    ∙ sym (ap (map f) (take_more cells i [] l) ∙ map-append f (take i cells) (cell_at cells i ∷ []))

-- all cells
pub put_all : (f : List Factor → ℕ) (cells : List (List Factor)) (i : ℕ) (xs : List ℕ) → length cells ≤ i → xs ≡ map f (take i cells) → xs ≡ map f cells
put_all f cells i xs l h = h ∙ ap (map f) (take_all i cells l)

pub place_inside : (kept all : List (List Factor)) (i : ℕ) → ((q : List Factor) → Contains kept q → Contains all q) → i < length kept → Contains all (cell_at kept i)
place_inside kept all i h l = h (cell_at kept i) (Contains-get_or kept i [] l)

module _ (x a all kept : List (List Factor)) where
  pub table_told : (table : List ℕ) → all ≡ all_cells x a → kept ≡ relative_cells x a → table ≡ map (kind_among kept) all → table ≡ pair_table x a
  table_told table e f h =
      h ∙ ap (λ (l : List (List Factor)). map (kind_among l) all) f ∙ ap (λ (l : List (List Factor)). map (kind_among (relative_cells x a)) l) e
      ∙ same_map (kind_among (relative_cells x a)) (λ q. cond (is_relative x a q) (suc (dimension_of q)) 0) (λ q. ap (λ b. cond b (suc (dimension_of q)) 0) (has_is x a q)) (all_cells x a)

  pub numbers_told : (numbers : List ℕ) → all ≡ all_cells x a → kept ≡ relative_cells x a → numbers ≡ map (λ q. suc (number_of all q)) kept → numbers ≡ pair_numbers x a
  numbers_told numbers e f h =
      h ∙ ap (λ (l : List (List Factor)). map (λ q. suc (number_of l q)) kept) e ∙ ap (λ (l : List (List Factor)). map (λ q. suc (number_of (all_cells x a) q)) l) f
      ∙ map_by_place (λ q. suc (number_of (all_cells x a) q)) (relative_cells x a)

  pub wanted_told : (wanted : List ℕ) → kept ≡ relative_cells x a → wanted ≡ map (λ q. suc (dimension_of q + 1)) kept → wanted ≡ pair_wanted x a
  wanted_told wanted f h =
      h ∙ ap (λ (l : List (List Factor)). map (λ q. suc (dimension_of q + 1)) l) f ∙ map_by_place (λ q. suc (dimension_of q + 1)) (relative_cells x a)

  -- they are short, and as many as one another
  pub table_short : (table : List ℕ) → all ≡ all_cells x a → length (all_cells x a) ≤ 4096 → table ≡ map (kind_among kept) all → length table < 2 ^ 32 - 1
  table_short table e few h =
      let a1 : length table ≡ length (map (kind_among kept) all) = ap length h in
      let a2 : length (map (kind_among kept) all) ≡ length all = length-map all (kind_among kept) in
      let a3 : length all ≡ length (all_cells x a) = ap length e in
      let a4 : length table ≤ 4096 = omega arith in
      omega (arith, a4)

  pub as_many : (numbers wanted : List ℕ) → numbers ≡ map (λ q. suc (number_of all q)) kept → wanted ≡ map (λ q. suc (dimension_of q + 1)) kept → length wanted ≡ length numbers
  as_many numbers wanted h k =
      ap length k ∙ length-map kept (λ q. suc (dimension_of q + 1)) ∙ sym (ap length h ∙ length-map kept (λ q. suc (number_of all q)))

-- what holds of three lists holds of the same lists
pub all_three : (F : List ℕ → List ℕ → List ℕ → Type 0) (t n w u m v : List ℕ) → t ≡ u → n ≡ m → w ≡ v → F t n w → F u m v
all_three F t n w u m v e f g h =
    subst (λ (l : List ℕ). F u m l) g (subst (λ (l : List ℕ). F u l w) f (subst (λ (l : List ℕ). F l n w) e h))

-- a stop is told as it is
pub if_told : {A : Type 0} (r : Result A Stop) (S : Stop → Type 0) → IfErr r S → IfErr r (IfTold S)
if_told (Ok v) S h = tt
if_told (Err (stops.At left law)) S h = h
if_told (Err stops.NoMemory) S h = tt
