-- Values that are not acyclic, and the first of them.
use Rattle.std.proofs.Common.{◌≡◌, ⊎_elim, ℕ, ◌+◌, ◌<◌, ◌≤◌, sym, ap, ◌∙◌, subst, arith, List, [], length, get_or, true}
use Rattle.std.specs.Prelude.{◌==◌}
use Rattle.std.specs.List.{Contains, list_all}
use Rattle.std.specs.List.Sorted.{IsStrictlySortedBy}
use Rattle.std.proofs.lemmas.Bool.{and_parts, eqb-true, cases_lt}
use Rattle.std.proofs.lemmas.List.{get_or_default}
use Rattle.elem_cubes.specs.Cells.{Factor, is_file_factor}
use Rattle.elem_cubes.specs.Order.{cell_cmp}
use Rattle.elem_cubes.specs.Laws.{cell_at}
use Rattle.elem_cubes.proofs.Conjunctions.{all_at}
use Rattle.cube_sets.specs.Sets.{Members, IsCubeSet, is_member}
use Rattle.cube_sets.specs.Closures.{is_cell_of, cells_of}
use Rattle.cube_sets.proofs.Covering.{cells_are_faces}
use Rattle.cell_complex.specs.Acyclic.{IsAcyclic}
use Rattle.cell_complex.specs.Sorted.{IsSortedCells}
use Rattle.cell_complex.specs.RelativeComplex.{IsClosedList}
use Rattle.cell_complex.proofs.Deciding.{closed}
use Rattle.cube_maps.specs.CubeMaps.{Naming, value_of}
use Rattle.acyclic_values.specs.Values.{IsValueAt}
use Rattle.acyclic_values.specs.Faults.{IsHoleOf}
use Rattle.acyclic_values.specs.declared.hole.Hole.{Hole}
use Rattle.acyclic_values.specs.declared.hole.Hole.TheVariants.{Empty, Class}
use Rattle.acyclic_values.proofs.Cells.{all_In, In_all, cells_listing}
use Rattle.acyclic_values.proofs.Values.{values_are_one}
use Rattle.acyclic_values.proofs.Contracting.{never_both}
use Rattle.map_checks.specs.Firsts.{IsFirstOf}
use Rattle.map_checks.specs.Faults.{IsHollowAt, IsAcyclicAt, IsFaultAt, IsFirstHollow}
use Rattle.map_checks.specs.declared.map_fault.MapFault.{MapFault}
use Rattle.map_checks.specs.declared.map_fault.MapFault.TheVariants as faults
use Rattle.map_checks.proofs.Firsts.{first_at}

-- ---- the list of a value

pub value_closed : (map : List Naming) (domain : List (List Factor)) (s : List Factor) (value : List (List Factor)) → IsValueAt map domain s value → IsClosedList value
value_closed map domain s value v q r f w = (v.cells r).1 (λ c d e. closed (value_of map c) q r f ((v.cells q).0 w c d e))

pub sorted_cells : (set : Members) → IsCubeSet set → IsSortedCells set.cells
sorted_cells set is =
    let long = λ (i : ℕ) (l : i < length set.cells). eqb-true (length (cell_at set.cells i)) set.dimension (and_parts (length (cell_at set.cells i) == set.dimension) (list_all is_file_factor (cell_at set.cells i)) (all_at (is_member set.dimension) set.cells i [] is.alike l)).0 in
    record {
      sorted = is.sorted;
      alike = λ i j li lj. long i li ∙ sym (long j lj);
      in_range = In_all (list_all is_file_factor) set.cells (λ q w. (and_parts (length q == set.dimension) (list_all is_file_factor q) (all_In (is_member set.dimension) set.cells is.alike q w)).1);
      few = is.few;
    }

pub acyclic_at : (p : ℕ) (map : List Naming) (domain : List (List Factor)) (s : List Factor) (value : List (List Factor)) → IsValueAt map domain s value → IsAcyclic p value → IsAcyclicAt p map domain s
acyclic_at p map domain s value v ac other w = subst (IsAcyclic p) (values_are_one map domain s value other v w) ac

-- ---- holes

pub hole_hollow : (p : ℕ) (value : List (List Factor)) (hole : Hole p) → 2 ≤ p → IsHoleOf p value hole → IsAcyclic p value → ⊥
hole_hollow p value Empty two h ac = ac.some h
hole_hollow p value (Class k z w) two h ac = never_both p value k _ _ two ac h.0

module _ (p : ℕ) (map : List Naming) (domain : List (List Factor)) (two : 2 ≤ p) where
  hollow_at : (s : List Factor) (value : List (List Factor)) (hole : Hole p) → IsValueAt map domain s value → IsHoleOf p value hole → IsHollowAt p map domain s
  hollow_at s value hole v h = record { value = value; is = v; hollow = hole_hollow p value hole two h }

  not_hollow : (s : List Factor) → IsAcyclicAt p map domain s → IsHollowAt p map domain s → ⊥
  not_hollow s ac h = h.hollow (ac h.value h.is)

  pub first_hollow : (cells : List (List Factor)) → cells ≡ cells_of domain → (i : ℕ) (s : List Factor) → i < length cells → s ≡ get_or cells i s → ((k : ℕ) → k < i → IsAcyclicAt p map domain (cell_at cells k))
      → (fault : MapFault p) → IsFaultAt p map domain s fault → IsFirstHollow p map domain fault
  first_hollow cells e i s l at before (faults.NotAcyclic cell value hole) h =
      let sorted : IsStrictlySortedBy cell_cmp cells = subst (IsStrictlySortedBy cell_cmp) (sym e) (cells_are_faces.sorted domain) in
      let first : IsFirstOf cells (IsHollowAt p map domain) s = first_at cells sorted (IsHollowAt p map domain) i s l at (hollow_at s value.items hole h.1 h.2) (λ k lt. not_hollow (cell_at cells k) (before k lt)) in
      let there : IsFirstOf (cells_of domain) (IsHollowAt p map domain) s = subst (λ (cs : List (List Factor)). IsFirstOf cs (IsHollowAt p map domain) s) e first in (
        subst (IsFirstOf (cells_of domain) (IsHollowAt p map domain)) (sym h.0) there,
        subst (λ (r : List Factor). IsValueAt map domain r value.items) (sym h.0) h.1,
        h.2,
      )
  first_hollow cells e i s l at before (faults.Undefined cube) h = absurd h
  first_hollow cells e i s l at before (faults.LeavesRange cube value) h = absurd h
  first_hollow cells e i s l at before (faults.NotCarried cube value) h = absurd h
  first_hollow cells e i s l at before faults.NoMemory h = tt

-- what is read at a place of a list stands there, whatever is said of places past the end
pub read : (cells : List (List Factor)) (i : ℕ) (s : List Factor) → i < length cells → s ≡ cell_at cells i → s ≡ get_or cells i s
read cells i s l at = at ∙ sym (get_or_default cells i s [] l)

-- a cell at a place of the list of all cells is a cell of the set
pub cell_there : (domain cells : List (List Factor)) → cells ≡ cells_of domain → (i : ℕ) (s : List Factor) → i < length cells → s ≡ get_or cells i s → is_cell_of domain s ≡ true
cell_there domain cells e i s l at =
    ((cells_listing domain).members s).1 (subst (λ (cs : List (List Factor)). Contains cs s) e (i, l, sym at))

pub acyclic_more : (p : ℕ) (map : List Naming) (domain cells : List (List Factor)) (i : ℕ) (s : List Factor) → i < length cells → s ≡ get_or cells i s → IsAcyclicAt p map domain s
    → ((k : ℕ) → k < i → IsAcyclicAt p map domain (cell_at cells k)) → (k : ℕ) → k < i + 1 → IsAcyclicAt p map domain (cell_at cells k)
acyclic_more p map domain cells i s l at here before k lt = ⊎_elim
    (λ less. before k less)
    (λ ge. let same : i ≡ k = omega arith in subst (IsAcyclicAt p map domain) (at ∙ get_or_default cells i s [] l ∙ ap (cell_at cells) same) here)
    (cases_lt k i)

pub acyclic_all : (p : ℕ) (map : List Naming) (domain cells : List (List Factor)) → cells ≡ cells_of domain → ((k : ℕ) → k < length cells → IsAcyclicAt p map domain (cell_at cells k))
    → (s : List Factor) → is_cell_of domain s ≡ true → IsAcyclicAt p map domain s
acyclic_all p map domain cells e each s c =
    let w = subst (λ (cs : List (List Factor)). Contains cs s) (sym e) (((cells_listing domain).members s).0 c) in
    subst (IsAcyclicAt p map domain) (sym (get_or_default cells w.0 s [] w.1) ∙ w.2) (each w.0 w.1)
