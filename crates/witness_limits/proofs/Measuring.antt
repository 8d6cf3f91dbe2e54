-- How large the values of a map are.
use Rattle.std.proofs.Common.{◌≡◌, ℕ, zero, suc, ◌+◌, ◌*◌, ◌<◌, ◌≤◌, sym, ap, ◌∙◌, subst, arith, List, [], ◌∷◌, length, get_or, filter, Bool, true, false, cond}
use Rattle.std.proofs.Math.Nat.{mul-le-mul_left}
use Rattle.std.proofs.lemmas.List.{get_or_default}
use Rattle.elem_cubes.specs.Cells.{Factor}
use Rattle.field_mod.specs.Sums.{total}
use Rattle.cube_sets.specs.Closures.{is_cell_of, cells_of}
use Rattle.cell_complex.proofs.Numbering.{listed}
use Rattle.acyclic_values.proofs.Cells.{cells_listing}
use Rattle.acyclic_values.specs.Values.{in_value, IsValueAt}
use Rattle.acyclic_values.proofs.Values.{values_are_one}
use Rattle.map_checks.specs.Faults.{AreNamed, HasNoSetFault}
use Rattle.pair_maps.specs.declared.inputs.PairMap.{PairMap}
use Rattle.pair_maps.specs.Inputs.{domain_of}
use Rattle.elem_cubes.specs.Laws.{cell_at}
use Rattle.witness_laws.specs.Inputs.{Given, all_cells}
use Rattle.witness_laws.specs.Parts.{value_at}
use Rattle.witness_laws.proofs.Mapping.{is_value}
use Rattle.witness_limits.specs.Limits.{square, HasFew}
use Rattle.witness_limits.specs.Maps.{given_of_map, value_of}

-- a sum up to one more
total_more : (n : ℕ) (f : ℕ → ℕ) → total (suc n) f ≡ total n f + f n
total_more zero f = omega arith
total_more (suc n) f = let e = total_more n (λ i. f (suc i)) in omega (arith, e)

-- a filtered list is no longer
filter_shorter : {A : Type 0} (test : A → Bool) (xs : List A) → length (filter test xs) ≤ length xs
filter_shorter test [] = omega arith
filter_shorter test (x ∷ xs) = by (test x) (filter_shorter test xs)
  where
    by : (b : Bool) → length (filter test xs) ≤ length xs → length (cond b (x ∷ filter test xs) (filter test xs)) ≤ suc (length xs)
    by true l = omega (arith, l)
    by false l = omega (arith, l)

-- what is read of the cells of a set is a cell of it
pub cell_inside : (domain cells all : List (List Factor)) (i : ℕ) (s : List Factor) → cells ≡ all → all ≡ cells_of domain → i < length cells → s ≡ get_or cells i s → is_cell_of domain s ≡ true
cell_inside domain cells all i s e f l at =
    let h = listed (is_cell_of domain) (cells_of domain) (cells_listing domain) i (subst (λ (cs : List (List Factor)). i < length cs) (e ∙ f) l) in
    let here : s ≡ cell_at (cells_of domain) i = at ∙ get_or_default cells i s [] l ∙ ap (λ (cs : List (List Factor)). cell_at cs i) (e ∙ f) in
    ap (is_cell_of domain) here ∙ h

module _ (m : PairMap) (few : HasFew (given_of_map m)) (sound : HasNoSetFault m.map.named m.x.cells m.a.cells m.y.cells m.b.cells) where
  abbrev D : List (List Factor)
  D = domain_of m

  abbrev G : Given
  G = given_of_map m

  pub value_few : (s : List Factor) → length (value_of m s) ≤ 4096
  value_few s = let l = filter_shorter (in_value m.map.named D s) (all_cells m.y.cells m.b.cells) in omega (arith, l, few.range)

  pub square_few : (s : List Factor) → square (length (value_of m s)) ≤ 16777216
  square_few s = let l = mul-le-mul_left (length (value_of m s)) (value_few s) in omega (arith, l, value_few s)

  -- the list that was made is the value
  pub made_is : (domain : List (List Factor)) (s : List Factor) (made : List (List Factor)) → domain ≡ D → is_cell_of domain s ≡ true → IsValueAt m.map.named domain s made → made ≡ value_of m s
  made_is domain s made e c v = values_are_one m.map.named D s made (value_of m s)
      (subst (λ (d : List (List Factor)). IsValueAt m.map.named d s made) e v)
      (is_value G sound s (subst (λ (d : List (List Factor)). is_cell_of d s ≡ true) e c))

  pub named_in : (domain : List (List Factor)) → domain ≡ D → AreNamed m.map.named domain
  named_in domain e = subst (AreNamed m.map.named) (sym e) sound.named

  -- one more square
  pub squares_more : (cells : List (List Factor)) (i size n new : ℕ) (s : List Factor) → cells ≡ all_cells m.x.cells m.a.cells → s ≡ cell_at cells i
      → size ≡ total i (λ j. square (length (value_at G j))) → size ≤ i * 16777216 → n ≡ square (length (value_of m s)) → n ≤ 16777216 → new ≡ size + n
      → (new ≡ total (i + 1) (λ j. square (length (value_at G j)))) × (new ≤ (i + 1) * 16777216)
  squares_more cells i size n new s e at h l is small made =
      let more : i + 1 ≡ suc i = omega arith in
      let here : s ≡ cell_at (all_cells m.x.cells m.a.cells) i = at ∙ ap (λ (l : List (List Factor)). cell_at l i) e in
      let square_here : n ≡ square (length (value_at G i)) = is ∙ ap (λ (q : List Factor). square (length (value_of m q))) here in
      let sum = total_more i (λ j. square (length (value_at G j))) in (
        made ∙ ap (λ (a : ℕ). a + n) h ∙ ap (λ (b : ℕ). total i (λ j. square (length (value_at G j))) + b) square_here
            ∙ sym sum ∙ ap (λ (k : ℕ). total k (λ j. square (length (value_at G j)))) (sym more),
        omega (arith, made, l, small),
      )
