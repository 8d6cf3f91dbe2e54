-- What a carrier keeps: how many cells its sets have, their dimension, and what it is.
use Rattle.std.proofs.Common.{◌≡◌, ⊎_elim, ℕ, ◌+◌, ◌<◌, ◌≤◌, ◌^◌, max, refl, sym, ap, ◌∙◌, subst, arith, List, ◌++◌, length, Bool, true, false, ◌||◌}
use Rattle.std.specs.Prelude.{◌==◌}
use Rattle.std.specs.List.{Contains, list_all}
use Rattle.std.proofs.lemmas.Bool.{and_parts, eqb-true}
use Rattle.std.proofs.lemmas.Bool.Decides.{nat_tests}
use Rattle.std.proofs.lemmas.List.Folds.{list_any-append}
use Rattle.elem_cubes.specs.Cells.{Factor, is_file_factor}
use Rattle.elem_cubes.specs.Faces.{is_face}
use Rattle.elem_cubes.proofs.FaceLemmas.{face_refl}
use Rattle.elem_cubes.proofs.Members.{In-from, from-In}
use Rattle.cube_sets.specs.Sets.{Members, IsCubeSet, is_member, dimensions_agree}
use Rattle.cube_sets.specs.Closures.{is_cell_of, cells_of}
use Rattle.cube_sets.proofs.Covering.{cells_are_faces}
use Rattle.cube_sets.proofs.SetLemmas.{union_is_set}
use Rattle.cell_complex.specs.declared.pairs.TheConstants.{CELLS}
use Rattle.cell_complex.specs.CellCount.{cell_count}
use Rattle.cell_complex.specs.Sorted.{IsSortedCells}
use Rattle.cell_complex.proofs.Deciding.{has_cell, from_has, has_is}
use Rattle.cell_complex.proofs.Counting.{counted_below, distinct_from_sorted}
use Rattle.cube_maps.specs.CubeMaps.{Naming, Mapping}
use Rattle.acyclic_values.proofs.Cells.{all_In, cell_in, cell_from}
use Rattle.map_checks.specs.Faults.{together, HasNoSetFault, IsAcyclicAt, IsFirstHollow, IsMapFault}
use Rattle.map_checks.specs.Carriers.{Carrying, IsCarrier, AreOfOneDimension}
use Rattle.map_checks.specs.declared.map_fault.MapFault.{MapFault}
use Rattle.map_checks.specs.declared.map_fault.MapFault.TheVariants as faults
use Rattle.map_checks.proofs.Firsts.{together_to}
use Rattle.map_checks.proofs.Hollow.{sorted_cells}

-- ---- how many

or_true : (b : Bool) → (b || true) ≡ true
or_true true = refl
or_true false = refl

in_first : (x a : List (List Factor)) (q : List Factor) → is_cell_of x q ≡ true → is_cell_of (x ++ a) q ≡ true
in_first x a q e = list_any-append (λ s. is_face s q) x a ∙ ap (λ b. b || is_cell_of a q) e

in_second : (x a : List (List Factor)) (q : List Factor) → is_cell_of a q ≡ true → is_cell_of (x ++ a) q ≡ true
in_second x a q e = list_any-append (λ s. is_face s q) x a ∙ ap (λ b. is_cell_of x q || b) e ∙ or_true (is_cell_of x q)

member_cell : (x : List (List Factor)) (q : List Factor) → has_cell x q ≡ true → is_cell_of x q ≡ true
member_cell x q e = cell_from x q q (In-from x q (from_has x q e)) (face_refl q)

pub first_few : (x a : Members) → IsCubeSet x → length x.cells ≤ cell_count (x.cells ++ a.cells)
first_few x a is = counted_below (x.cells ++ a.cells) x.cells (distinct_from_sorted x.cells is.sorted) (λ q e. in_first x.cells a.cells q (member_cell x.cells q e))

pub second_few : (x a : Members) → IsCubeSet a → length a.cells ≤ cell_count (x.cells ++ a.cells)
second_few x a is = counted_below (x.cells ++ a.cells) a.cells (distinct_from_sorted a.cells is.sorted) (λ q e. in_second x.cells a.cells q (member_cell a.cells q e))

pub cells_few : (x a : List (List Factor)) → length (cells_of (together x a)) ≤ cell_count (x ++ a)
cells_few x a = counted_below (x ++ a) (cells_of (together x a)) (distinct_from_sorted (cells_of (together x a)) (cells_are_faces.sorted (together x a)))
    (λ q e. inside q (sym (cells_are_faces.faces (together x a) q) ∙ has_is (cells_of (together x a)) q ∙ e))
  where
    inside : (q : List Factor) → is_cell_of (together x a) q ≡ true → is_cell_of (x ++ a) q ≡ true
    inside q e =
        let w = cell_in (together x a) q e in
        ⊎_elim
        (λ v. in_first x a q (cell_from x w.0 q (In-from x w.0 v) w.2))
        (λ v. in_second x a q (cell_from a w.0 q (In-from a w.0 v) w.2))
        (together_to x a w.0 (from-In (together x a) w.0 w.1))

-- the cells of a set that has few of them
pub cells_sorted : (set : Members) → IsCubeSet set → length (cells_of set.cells) < 2 ^ 32 → IsSortedCells (cells_of set.cells)
cells_sorted set is few = sorted_cells (record { dimension = set.dimension; cells = cells_of set.cells }) (record {
  axes = is.axes;
  unknown = λ e. ap cells_of (is.unknown e);
  alike = cells_are_faces.alike set.dimension set.cells is.alike;
  sorted = cells_are_faces.sorted set.cells;
  few = few;
})

-- ---- the dimension

known_below : (m x a : ℕ) → dimensions_agree m x ≡ true → dimensions_agree m a ≡ true → dimensions_agree x a ≡ true → (max x a ≡ 0 → ⊥) → m ≤ max x a
known_below m x a h k l n = grind (arith, nat_tests)

below_known : (m x a : ℕ) → dimensions_agree x m ≡ true → dimensions_agree a m ≡ true → dimensions_agree x a ≡ true → (max x a ≡ 0 → ⊥) → m ≤ max x a
below_known m x a h k l n = grind (arith, nat_tests)

long_members : (set : Members) → IsCubeSet set → (q : List Factor) → Contains set.cells q → length q ≡ set.dimension
long_members set is q w = eqb-true (length q) set.dimension (and_parts (length q == set.dimension) (list_all is_file_factor q) (all_In (is_member set.dimension) set.cells is.alike q (In-from set.cells q w))).0

not_unknown : (set : Members) → IsCubeSet set → (q : List Factor) → Contains set.cells q → set.dimension ≡ 0 → ⊥
not_unknown set is q w e = let l = ap length (is.unknown e) in omega (arith, w.1, l)

-- ---- a carrier

module _ (map : Mapping) (x a y b : Members) (ix : IsCubeSet x) (ia : IsCubeSet a) (iy : IsCubeSet y) (ib : IsCubeSet b) (one : AreOfOneDimension map x a y b)
    (dc : cell_count (x.cells ++ a.cells) ≤ CELLS) (rc : cell_count (y.cells ++ b.cells) ≤ CELLS) where
  pub few_domain : length x.cells + length a.cells < 2 ^ 32
  few_domain = omega (arith, first_few x a ix, second_few x a ia)

  pub few_range : length y.cells + length b.cells < 2 ^ 32
  few_range = omega (arith, first_few y b iy, second_few y b ib)

  domain_set : IsCubeSet (record { dimension = max x.dimension a.dimension; cells = together x.cells a.cells })
  domain_set = union_is_set x a ix ia one.x_a few_domain

  range_set : IsCubeSet (record { dimension = max y.dimension b.dimension; cells = together y.cells b.cells })
  range_set = union_is_set y b iy ib one.y_b few_range

  domain_long : (q : List Factor) → Contains (together x.cells a.cells) q → length q ≡ max map.dimension (max (max x.dimension a.dimension) (max y.dimension b.dimension))
  domain_long q w =
      let n = not_unknown (record { dimension = max x.dimension a.dimension; cells = together x.cells a.cells }) domain_set q w in
      let m = known_below map.dimension x.dimension a.dimension one.map_x one.map_a one.x_a n in
      let u = below_known y.dimension x.dimension a.dimension one.x_y one.a_y one.x_a n in
      let v = below_known b.dimension x.dimension a.dimension one.x_b one.a_b one.x_a n in
      let l = long_members (record { dimension = max x.dimension a.dimension; cells = together x.cells a.cells }) domain_set q w in
      omega (arith, l, m, u, v)

  range_long : (q : List Factor) → Contains (together y.cells b.cells) q → length q ≡ max map.dimension (max (max x.dimension a.dimension) (max y.dimension b.dimension))
  range_long q w =
      let n = not_unknown (record { dimension = max y.dimension b.dimension; cells = together y.cells b.cells }) range_set q w in
      let m = known_below map.dimension y.dimension b.dimension one.map_y one.map_b one.y_b n in
      let u = known_below x.dimension y.dimension b.dimension one.x_y one.x_b one.y_b n in
      let v = known_below a.dimension y.dimension b.dimension one.a_y one.a_b one.y_b n in
      let l = long_members (record { dimension = max y.dimension b.dimension; cells = together y.cells b.cells }) range_set q w in
      omega (arith, l, m, u, v)

  pub carrier_of : (p : ℕ) (dim : ℕ) (named : List Naming) (ds rs : List (List Factor)) → named ≡ map.named → ds ≡ together x.cells a.cells → rs ≡ together y.cells b.cells
      → dim ≡ max map.dimension (max (max x.dimension a.dimension) (max y.dimension b.dimension))
      → HasNoSetFault map.named x.cells a.cells y.cells b.cells → ((s : List Factor) → is_cell_of ds s ≡ true → IsAcyclicAt p map.named ds s)
      → IsCarrier p (record { dimension = dim; map = named; domain = ds; range = rs })
  carrier_of p dim named ds rs e f g h ok ac =
      subst (λ (c : Carrying). IsCarrier p c) (λ i. record { dimension = sym h i; map = sym e i; domain = sym f i; range = sym g i }) (record {
        acyclic = record {
          inside = ok.inside;
          acyclic = λ s value at v. subst (λ (d : List (List Factor)). (s : List Factor) → is_cell_of d s ≡ true → IsAcyclicAt p map.named d s) f ac s at value v;
        };
        named = ok.named;
        domain = domain_set.sorted;
        domain_cells = cells_sorted (record { dimension = max x.dimension a.dimension; cells = together x.cells a.cells }) domain_set (omega (arith, cells_few x.cells a.cells));
        range_cells = cells_sorted (record { dimension = max y.dimension b.dimension; cells = together y.cells b.cells }) range_set (omega (arith, cells_few y.cells b.cells));
        dimension = domain_long;
        range_dimension = range_long;
      })

-- the first value that is not acyclic is a fault of a map that has none of its sets
pub first_fault : (p : ℕ) (map : List Naming) (x a y b ds : List (List Factor)) → HasNoSetFault map x a y b → ds ≡ together x a → (fault : MapFault p) → IsFirstHollow p map ds fault → IsMapFault p map x a y b fault
first_fault p map x a y b ds ok e (faults.NotAcyclic cell value hole) h =
    let k = subst (λ (d : List (List Factor)). IsFirstHollow p map d (faults.NotAcyclic cell value hole)) e h in (ok, k.0, k.1, k.2)
first_fault p map x a y b ds ok e (faults.Undefined cube) h = absurd h
first_fault p map x a y b ds ok e (faults.LeavesRange cube value) h = absurd h
first_fault p map x a y b ds ok e (faults.NotCarried cube value) h = absurd h
first_fault p map x a y b ds ok e faults.NoMemory h = tt
