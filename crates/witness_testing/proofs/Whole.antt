-- All lines of a value, run by run.
use Rattle.std.proofs.Common.{◌≡◌, ℕ, zero, suc, ◌+◌, ◌*◌, ◌<◌, ◌≤◌, ◌^◌, refl, sym, ap, ◌∙◌, subst, arith, List, [], ◌∷◌, ◌++◌, length, get_or, map, Some}
use Rattle.elem_cubes.specs.Cells.{Factor}
use Rattle.elem_cubes.proofs.Members.{In}
use Rattle.cube_sets.specs.Sets.{Members}
use Rattle.cube_maps.specs.CubeMaps.{Mapping}
use Rattle.witness_laws.specs.declared.law.Law.{Law}
use Rattle.witness_laws.specs.declared.law.WitnessFault.{WitnessFault}
use Rattle.witness_laws.specs.Lines.{Side, Line, domain, range, values, matrix, end, each}
use Rattle.witness_laws.specs.Inputs.{Given, all_cells, relative_cells}
use Rattle.witness_laws.specs.Tables.{PairTables, MapTables, Tables, IsTables, pair_lines, value_lines, matrix_lines, map_lines, lines_of_tables, tables_format, holds}
use Rattle.witness_laws.proofs.Reaching.{in_domain, in_range}
use Rattle.witness_types.specs.Parts.{pair_tables}
use Rattle.witness_types.specs.declared.part.PairPart.{PairPart}
use Rattle.witness_sections.specs.Outcomes.{Meet, ArePassed, IsFaultAmong}
use Rattle.witness_sections.specs.Readings.{IsReadable}
use Rattle.witness_sections.proofs.Lining.{meet_append}
use Rattle.witness_values.specs.Cells.{all_cell_lines}
use Rattle.read_parts.specs.declared.parts.ReadMap.{ReadMap}
use Rattle.read_parts.specs.Values.{read_tables, parts_value, AreTestable}
use Rattle.witness_testing.specs.Given.{pair_given, map_given, pair_parts, map_parts, map_value}
use Rattle.witness_testing.specs.Testing.{IsTestFault, MeetsAll}
use Rattle.witness_testing.specs.Sides.{SidePassed, IsSideFault, all_rows}
use Rattle.witness_testing.proofs.Named.{readable}
use Rattle.witness_testing.proofs.Runs.{passed_append, passed_one, passed_none, fault_front, fault_behind, values_hold, matrix_holds, end_holds, value_meets, value_fault}

-- ---- a pair

module _ {p : ℕ} (x a : Members) (part : PairPart p) (t : AreTestable (pair_given x a) (pair_parts part)) where
  abbrev Gp : Given
  Gp = pair_given x a

  abbrev Wp : Tables
  Wp = parts_value Gp (pair_parts part)

  abbrev Dp : List Line
  Dp = pair_lines domain Wp.domain

  pub pair_readable : length part.cycles.items < 2 ^ 32 → IsReadable (length (all_cells x.cells a.cells)) (length (relative_cells x.cells a.cells)) part
  pair_readable few = readable Gp Wp domain part t.first (in_domain Wp) refl t.order t.fits.domain few

  pub pair_all : (behind : ℕ) → SidePassed p x.cells a.cells (pair_tables Gp.top part) 4 behind → MeetsAll p Gp Wp
  pair_all behind h =
      let w = h Gp Wp domain (record { first = refl; second = refl; tables = refl }) in
      meet_append (holds p Gp Wp) (Dp ++ []) (end ∷ []) (meet_append (holds p Gp Wp) Dp [] w.meet tt) (end_holds p Gp Wp, tt)

  pub pair_fault : (fault : WitnessFault) → IsSideFault p x.cells a.cells (pair_tables Gp.top part) 4 fault → IsTestFault (tables_format p Gp) Wp fault
  pair_fault fault h = value_fault p Gp Wp fault (fault_front (holds p Gp Wp) (Dp ++ []) (end ∷ []) 4 fault (fault_front (holds p Gp Wp) Dp [] 4 fault
      (h Gp Wp domain (record { first = refl; second = refl; tables = refl }))))

-- ---- a map

module _ {p : ℕ} (mp : Mapping) (x a y b : Members) (part : PairPart p) (m : ReadMap p) (t : AreTestable (map_given mp x a y b) (map_parts part m)) where
  abbrev G : Given
  G = map_given mp x a y b

  abbrev W : Tables
  W = map_value G.top part m

  abbrev M : MapTables
  M = read_tables G.top m

  abbrev H : Law → Line → Type 0
  H = holds p G W

  abbrev D : List Line
  D = pair_lines domain W.domain

  abbrev R : List Line
  R = pair_lines range M.range

  abbrev V : List Line
  V = value_lines M

  abbrev Q : List Line
  Q = matrix_lines W.domain M

  pub domain_readable : length part.cycles.items < 2 ^ 32 → IsReadable (length (all_cells x.cells a.cells)) (length (relative_cells x.cells a.cells)) part
  domain_readable few = readable G W domain part t.first (in_domain W) refl t.order t.fits.domain few

  pub range_readable : length m.range.cycles.items < 2 ^ 32 → IsReadable (length (all_cells y.cells b.cells)) (length (relative_cells y.cells b.cells)) m.range
  range_readable few = readable G W range m.range t.first (in_range W M refl) refl t.range_order t.fits.map.range few

  -- a fault in the lines behind those of the domain
  in_map_lines : (fault : WitnessFault) (second : ℕ) → ArePassed H D 4 second → IsFaultAmong H ((R ++ V) ++ Q) second fault → IsTestFault (tables_format p G) W fault
  in_map_lines fault second one h = value_fault p G W fault (fault_front H (D ++ ((R ++ V) ++ Q)) (end ∷ []) 4 fault (fault_behind H D ((R ++ V) ++ Q) 4 second fault one h))

  pub domain_fault : (fault : WitnessFault) → IsSideFault p x.cells a.cells (pair_tables G.top part) 4 fault → IsTestFault (tables_format p G) W fault
  domain_fault fault h = value_fault p G W fault (fault_front H (D ++ ((R ++ V) ++ Q)) (end ∷ []) 4 fault (fault_front H D ((R ++ V) ++ Q) 4 fault
      (h G W domain (record { first = refl; second = refl; tables = refl }))))

  module _ (second : ℕ) (one : SidePassed p x.cells a.cells (pair_tables G.top part) 4 second) where
    first_run : ArePassed H D 4 second
    first_run = one G W domain (record { first = refl; second = refl; tables = refl })

    pub range_fault : (fault : WitnessFault) → IsSideFault p y.cells b.cells (pair_tables G.top m.range) second fault → IsTestFault (tables_format p G) W fault
    range_fault fault h = in_map_lines fault second first_run (fault_front H (R ++ V) Q second fault (fault_front H R V second fault
        (h G W range (record { first = refl; second = refl; tables = refl }))))

    module _ (third : ℕ) (two : SidePassed p y.cells b.cells (pair_tables G.top m.range) second third) where
      second_run : ArePassed H R second third
      second_run = two G W range (record { first = refl; second = refl; tables = refl })

      pub values_fault : (fault : WitnessFault) → IsFaultAmong H (all_cell_lines M) (third + 1) fault → IsTestFault (tables_format p G) W fault
      values_fault fault h = in_map_lines fault second first_run (fault_front H (R ++ V) Q second fault (fault_behind H R V second third fault second_run
          (fault_behind H (values ∷ []) (all_cell_lines M) third (third + 1) fault (passed_one H values third (values_hold p G W)) h)))

      module _ (fourth : ℕ) (three : ArePassed H (all_cell_lines M) (third + 1) fourth) where
        third_run : ArePassed H V third fourth
        third_run = passed_append H (values ∷ []) (all_cell_lines M) third (third + 1) fourth (passed_one H values third (values_hold p G W)) three

        pub matrices_fault : (fault : WitnessFault) → IsFaultAmong H (all_rows W.domain M) (fourth + 1) fault → IsTestFault (tables_format p G) W fault
        matrices_fault fault h = in_map_lines fault second first_run (fault_behind H (R ++ V) Q second fourth fault (passed_append H R V second third fourth second_run third_run)
            (fault_behind H (matrix ∷ []) (all_rows W.domain M) fourth (fourth + 1) fault (passed_one H matrix fourth (matrix_holds p G W)) h))

        pub map_all : (behind : ℕ) → ArePassed H (all_rows W.domain M) (fourth + 1) behind → MeetsAll p G W
        map_all behind four =
            let last = passed_append H (matrix ∷ []) (all_rows W.domain M) fourth (fourth + 1) behind (passed_one H matrix fourth (matrix_holds p G W)) four in
            let rest = passed_append H (R ++ V) Q second fourth behind (passed_append H R V second third fourth second_run third_run) last in
            let whole = passed_append H D ((R ++ V) ++ Q) 4 second behind first_run rest in
            meet_append H (D ++ ((R ++ V) ++ Q)) (end ∷ []) whole.meet (end_holds p G W, tt)
