use Rattle.std.proofs.Common.{◌≡◌, ◌<◌, ◌≤◌, ◌+◌, ◌-◌, ◌^◌, ◌∙◌, ℕ, List, suc, ap, arith, length, map, filter, sym, Bool, true, cond}
use Rattle.std.proofs.lemmas.List.{length-map}
use Rattle.std.specs.Prelude.{IfOk, IfErr}
use Rattle.elem_cubes.specs.Cells.{Factor, dimension_of}
use Rattle.elem_cubes.specs.Laws.{cell_at}
use Rattle.cube_sets.specs.Closures.{cells_of}
use Rattle.cell_complex.specs.Numbering.{number_of}
use Rattle.cube_maps.specs.CubeMaps.{Naming}
use Rattle.acyclic_values.specs.Values.{in_value}
use Rattle.section_reading.specs.Cell.{HasCell, StopsCell}
use Rattle.witness_writing.proofs.Filling.{values_inside}
use Rattle.witness_reading.specs.Kinds.{kinds_where}
use Rattle.witness_reading.proofs.Tables.{if_told}
use Rattle.map_lines.specs.Cells.{AreSides, value_in, value_kinds, numbers_in, kinds_above, all_kinds, StopsAtCell}
use Rattle.map_lines.proofs.Growing.{all_six, numbers_told, above_told}
use Rattle.map_reading.proofs.cells.read_cell.Goals as goal

-- what the pass over all cells tells of the kinds of a value
abbrev AreKinds : List (List Factor) → List (List Factor) → List ℕ → Type 0
AreKinds all value kinds = (on : List Factor → Bool) (range : List (List Factor)) → all ≡ cells_of range → value ≡ filter on all → kinds ≡ kinds_where on all

-- tables of few cells are short
short : (on : List Factor → Bool) (cells : List (List Factor)) (kinds : List ℕ) → kinds ≡ kinds_where on cells → length cells ≤ 4096 → length kinds < 2 ^ 32 - 1
short on cells kinds e few =
    let a : length kinds ≡ length cells = ap length e ∙ length-map cells (λ q. cond (on q) (suc (dimension_of q)) 0) in
    let b : length kinds ≤ 4096 = omega arith in
    omega (arith, b)

module _ (f : List Naming) (domain range cells all : List (List Factor)) (sides : AreSides f domain range cells all) (i : ℕ) (value : List (List Factor)) (v : value ≡ value_in f domain range i) where
  abbrev on : List Factor → Bool
  on = in_value f domain (cell_at (cells_of domain) i)

  here : (table : List ℕ) → AreKinds all value table → table ≡ kinds_where on all
  here table t = t on range sides.all_are (v ∙ ap (filter on) (sym sides.all_are))

  table_is : (table : List ℕ) → AreKinds all value table → table ≡ value_kinds f domain range i
  table_is table t = here table t ∙ ap (kinds_where on) sides.all_are

  table_short : (table : List ℕ) → AreKinds all value table → length table < 2 ^ 32 - 1
  table_short table t = short on all table (here table t) sides.few_range

  numbers_are : (numbers : List ℕ) → numbers ≡ map (λ q. suc (number_of all q)) value → numbers ≡ numbers_in (cells_of range) (value_in f domain range i)
  numbers_are numbers n =
      numbers_told all value numbers n ∙ ap (λ (l : List (List Factor)). numbers_in l value) sides.all_are ∙ ap (λ (l : List (List Factor)). numbers_in (cells_of range) l) v

  wanted_are : (wanted : List ℕ) → wanted ≡ map (λ q. suc (dimension_of q + 1)) value → wanted ≡ kinds_above (value_in f domain range i)
  wanted_are wanted w = above_told value wanted w ∙ ap (λ (l : List (List Factor)). kinds_above l) v

  numbers_many : (numbers : List ℕ) → numbers ≡ map (λ q. suc (number_of all q)) value → length numbers ≡ length (value_in f domain range i)
  numbers_many numbers n = ap length n ∙ length-map value (λ q. suc (number_of all q)) ∙ ap length v

  wanted_many : (wanted : List ℕ) → wanted ≡ map (λ q. suc (dimension_of q + 1)) value → length wanted ≡ length (value_in f domain range i)
  wanted_many wanted w = ap length w ∙ length-map value (λ q. suc (dimension_of q + 1)) ∙ ap length v

-- what holds of the tables that were made holds of those of the cell
cell_told : (P : ℕ → List ℕ → List ℕ → List ℕ → List ℕ → ℕ → Type 0) (f : List Naming) (domain range cells all : List (List Factor)) → AreSides f domain range cells all → (i : ℕ)
    (table numbers wanted kinds : List ℕ) (kind : ℕ) → table ≡ value_kinds f domain range i → numbers ≡ numbers_in (cells_of range) (value_in f domain range i)
    → wanted ≡ kinds_above (value_in f domain range i) → kinds ≡ all_kinds all → kind ≡ suc (dimension_of (cell_at cells i)) → P (i + 1) table numbers wanted kinds kind
    → P (suc i) (value_kinds f domain range i) (numbers_in (cells_of range) (value_in f domain range i)) (kinds_above (value_in f domain range i)) (all_kinds (cells_of range))
    (suc (dimension_of (cell_at (cells_of domain) i)))
cell_told P f domain range cells all sides i table numbers wanted kinds kind t n w k d h =
    all_six P (i + 1) (suc i) table (value_kinds f domain range i) numbers (numbers_in (cells_of range) (value_in f domain range i)) wanted (kinds_above (value_in f domain range i)) kinds (all_kinds (cells_of range))
    kind (suc (dimension_of (cell_at (cells_of domain) i))) (let q : i + 1 ≡ suc i = omega arith in q) t n w (k ∙ ap (λ (l : List (List Factor)). all_kinds l) sides.all_are)
    (d ∙ ap (λ (l : List (List Factor)). suc (dimension_of (cell_at l i))) sides.cells_are) h

-- the numbers of the same value, read again
numbers_again : (all value first other : List (List Factor)) (numbers again : List ℕ) → first ≡ value → other ≡ value → numbers ≡ map (λ q. suc (number_of all q)) first → again ≡ numbers
    → again ≡ map (λ q. suc (number_of all q)) other
numbers_again all value first other numbers again e f n a = a ∙ n ∙ ap (λ (l : List (List Factor)). map (λ q. suc (number_of all q)) l) (e ∙ sym f)

pub numbers_of-requires-clause-inside : goal.numbers_of-requires-clause-inside
numbers_of-requires-clause-inside g c =
    values_inside c.args.cube_map.now.named c.args.domain.now.cells c.args.range.now.cells c.args.place c.deref.result.now c.args.all.now (c.deref.ensures.value ∙ c.in_ok-value.ensures) c.requires.sides.all_are

pub kinds_in-requires : goal.kinds_in-requires
kinds_in-requires g c =
    numbers_again c.args.all.now c.in_ok-value.value.items c.deref.result.now c.deref-3.result.now c.in_ok-numbers.numbers.items c.deref-4.result.now c.deref.ensures.value c.deref-3.ensures.value
    c.in_ok-numbers.ensures c.deref-4.ensures.value

pub cell_due-requires : goal.cell_due-requires
cell_due-requires g c =
    let f = c.args.cube_map.now.named in
    let domain = c.args.domain.now.cells in
    let range = c.args.range.now.cells in
    let cells = c.args.cells.now in
    let all = c.args.all.now in (
      (omega arith),
      (
        (omega arith),
        (
          table_short f domain range cells all c.requires.sides c.args.place c.deref-3.result.now (c.deref-3.ensures.value ∙ c.in_ok-value.ensures) c.deref-5.result.now
              (λ on range a v. c.deref-5.ensures.value ∙ c.in_ok-table.ensures on range a v),
          (
            short (λ q. true) all c.args.kinds.now c.requires.kinds c.requires.sides.few_range,
            wanted_many f domain range cells all c.requires.sides c.args.place c.deref-2.result.now (c.deref-2.ensures.value ∙ c.in_ok-value.ensures) c.deref-7.result.now
                (c.deref-7.ensures.value ∙ c.in_ok-wanted.ensures)
                ∙ sym (numbers_many f domain range cells all c.requires.sides c.args.place c.deref.result.now (c.deref.ensures.value ∙ c.in_ok-value.ensures) c.deref-6.result.now
                (c.deref-6.ensures.value ∙ c.in_ok-numbers.ensures)),
          ),
        ),
      ),
    )

pub returns-clause-ok : goal.returns-clause-ok
returns-clause-ok g c =
    let f = c.args.cube_map.now.named in
    let domain = c.args.domain.now.cells in
    let range = c.args.range.now.cells in
    let cells = c.args.cells.now in
    let all = c.args.all.now in
    cell_told (λ m t n w k d. IfOk c.cell_due.result (λ r. HasCell g.row.P m t n w k d c.args.bytes.now r.0.vertex r.0.contraction.items r.0.image r.1.now)) f domain range cells all c.requires.sides c.args.place
    c.deref-5.result.now c.deref-6.result.now c.deref-7.result.now c.args.kinds.now c.kind_of-kind.result
    (table_is f domain range cells all c.requires.sides c.args.place c.deref-3.result.now (c.deref-3.ensures.value ∙ c.in_ok-value.ensures) c.deref-5.result.now
    (λ on range a v. c.deref-5.ensures.value ∙ c.in_ok-table.ensures on range a v))
    (numbers_are f domain range cells all c.requires.sides c.args.place c.deref.result.now (c.deref.ensures.value ∙ c.in_ok-value.ensures) c.deref-6.result.now (c.deref-6.ensures.value ∙ c.in_ok-numbers.ensures))
    (wanted_are f domain range cells all c.requires.sides c.args.place c.deref-2.result.now (c.deref-2.ensures.value ∙ c.in_ok-value.ensures) c.deref-7.result.now (c.deref-7.ensures.value ∙ c.in_ok-wanted.ensures))
    c.requires.kinds (c.kind_of-kind.ensures.value ∙ ap (λ (q : List Factor). suc (dimension_of q)) c.cell.ensures) c.cell_due.ensures.ok

pub returns-clause-err : goal.returns-clause-err
returns-clause-err g c =
    let f = c.args.cube_map.now.named in
    let domain = c.args.domain.now.cells in
    let range = c.args.range.now.cells in
    let cells = c.args.cells.now in
    let all = c.args.all.now in
    if_told c.cell_due.result (StopsAtCell g.row.P f domain range c.args.place c.args.bytes.now)
    (cell_told (λ m t n w k d. IfErr c.cell_due.result (StopsCell g.row.P m t n w k d c.args.bytes.now)) f domain range cells all c.requires.sides c.args.place
    c.deref-5.result.now c.deref-6.result.now c.deref-7.result.now c.args.kinds.now c.kind_of-kind.result
    (table_is f domain range cells all c.requires.sides c.args.place c.deref-3.result.now (c.deref-3.ensures.value ∙ c.in_ok-value.ensures) c.deref-5.result.now
    (λ on range a v. c.deref-5.ensures.value ∙ c.in_ok-table.ensures on range a v))
    (numbers_are f domain range cells all c.requires.sides c.args.place c.deref.result.now (c.deref.ensures.value ∙ c.in_ok-value.ensures) c.deref-6.result.now (c.deref-6.ensures.value ∙ c.in_ok-numbers.ensures))
    (wanted_are f domain range cells all c.requires.sides c.args.place c.deref-2.result.now (c.deref-2.ensures.value ∙ c.in_ok-value.ensures) c.deref-7.result.now (c.deref-7.ensures.value ∙ c.in_ok-wanted.ensures))
    c.requires.kinds (c.kind_of-kind.ensures.value ∙ ap (λ (q : List Factor). suc (dimension_of q)) c.cell.ensures) c.cell_due.ensures.err)
