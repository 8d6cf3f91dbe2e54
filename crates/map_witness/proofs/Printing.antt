-- A witness in bases of the pairs of a map has the cycles and the matrices of the report.
use Rattle.std.proofs.Common.{◌≡◌, ℕ, ◌+◌, ◌<◌, ◌≤◌, sym, ap, ◌∙◌, arith, subst, List, [], length, get_or, map}
use Rattle.std.proofs.lemmas.List.{length-map, ext_get_or}
use Rattle.field_mod.specs.Modular.{Same}
use Rattle.field_mod.specs.Moduli.{IsModulus}
use Rattle.field_mod.proofs.Table.{two_le}
use Rattle.elem_cubes.specs.Cells.{Factor}
use Rattle.acyclic_values.specs.CarriedMaps.{IsInducedMatrix}
use Rattle.cell_complex.specs.Numbering.{cell_terms}
use Rattle.cube_maps.specs.CubeMaps.{Naming}
use Rattle.homology_basis.specs.Bases.{BasisOfLog, CyclesOfLog, in_degree}
use Rattle.leray_conley.specs.Tables.{Table, entry}
use Rattle.induced_map.specs.Pairs.{nth_by_cell}
use Rattle.induced_map.specs.Matrices.{IsMatrixOf, nth}
use Rattle.map_checks.specs.Carriers.{Carrying, AreOfOneDimension}
use Rattle.pair_maps.specs.declared.inputs.PairMap.{PairMap}
use Rattle.pair_maps.specs.Inputs.{domain_of, range_of}
use Rattle.pair_maps.specs.Refusals.{IsCarrierOf}
use Rattle.index_part.specs.Filled.{IsFilled}
use Rattle.index_part.specs.Tables.{IsRowOf, AreRowsOf}
use Rattle.report.specs.declared.pair.PairReport.{PairReport}
use Rattle.map_homology.specs.declared.bases.PairCells.{PairCells}
use Rattle.map_homology.specs.Bases.{AreBasesOf, IsBasisOfPair, IsPartOf, cycles_alone}
use Rattle.map_homology.proofs.Basing.{printed_by_cell}
use Rattle.map_homology.proofs.Inducing.{pair_of_basis}
use Rattle.witness_laws.specs.Inputs.{all_cells}
use Rattle.witness_laws.specs.Parts as laws
use Rattle.witness_laws.specs.Tables.{PairTables}
use Rattle.witness_types.specs.Parts.{pair_tables}
use Rattle.witness_types.specs.Rows.{row_of, rows_of}
use Rattle.witness_types.specs.declared.part.PairPart.{PairPart}
use Rattle.witness_parts.specs.Tables.{section_by, AreTablesOf}
use Rattle.map_parts.specs.Maps.{IsCarryingOf, IsDomainPart, IsInducedTable, AreInducedTables, IsMapWitness, top_of_map}
use Rattle.map_parts.proofs.Holding.{based_domain, top_is_greatest}
use Rattle.map_parts.proofs.Tabled.{length_rows, row_at, length_row, entry_at, rows_at}
use Rattle.pair_witness.specs.Witnesses.{AreTheCycles}
use Rattle.map_witness.specs.Bases.{IsPartOfCycles}
use Rattle.map_witness.specs.Witnesses.{IsFileOfMap}

-- what a selector keeps that begins with a carrier of the map
pub carrying_of : (p : ℕ) (m : PairMap) (c s : Carrying) → IsCarrierOf p m c → s ≡ c → IsCarryingOf s m.map.named m.x.cells m.a.cells m.y.cells m.b.cells
carrying_of p m c s h e = subst (λ (v : Carrying). IsCarryingOf v m.map.named m.x.cells m.a.cells m.y.cells m.b.cells) (sym e) (record { map = h.map; domain = h.domain; range = h.range })

-- ---- rows

row_is : (p : ℕ) (t : Table) (i : ℕ) (row : List ℕ) → IsRowOf p t i row → row_of t i ≡ row
row_is p t i row w = ext_get_or 0 (row_of t i) row (length_row t i ∙ sym w.count) (λ j l.
    let k : j < t.columns = omega (arith, l, length_row t i) in
    entry_at t i j k ∙ sym (w.each j k).0)

rows_are : (p : ℕ) (t : Table) (rows : List (List ℕ)) → AreRowsOf p t rows → rows_of t ≡ rows
rows_are p t rows w = ext_get_or [] (rows_of t) rows (length_rows t ∙ sym w.count) (λ i l.
    let k : i < t.rows = omega (arith, l, length_rows t) in
    row_at t i k ∙ row_is p t i (get_or rows i []) (w.each i k))

-- ---- cycles

the_cycles : (p : ℕ) (x a : List (List Factor)) (pair : PairCells) (A : BasisOfLog) (top : ℕ) (T : PairTables) → IsModulus p → IsBasisOfPair p x a pair (cycles_alone A) → AreTablesOf p top x a (section_by p pair.cells A) T
    → (k : ℕ) → k ≤ top → (named : List (List (List Factor × ℕ))) → named ≡ map (cell_terms pair.cells) (in_degree A.cycles k) → AreTheCycles p (all_cells x a) (in_degree T.cycles k) named
the_cycles p x a pair A top T is_modulus h w k l named e =
    let count : length (map (cell_terms pair.cells) (in_degree A.cycles k)) ≡ length (in_degree A.cycles k) = length-map (in_degree A.cycles k) (cell_terms pair.cells) in
    subst (λ (zs : List (List (List Factor × ℕ))). AreTheCycles p (all_cells x a) (in_degree T.cycles k) zs) (sym e) (record {
      count = (w.cycles k l).count ∙ sym count;
      same = λ i m q.
          subst (λ (n : ℕ). Same p (laws.chain_of (all_cells x a) (laws.nth (in_degree T.cycles k) i) q) n)
          (sym (ap (λ (f : ℕ → List Factor → ℕ). f i q) (printed_by_cell p x a pair (cycles_alone A) is_modulus h k)))
          (((w.cycles k l).at i (omega (arith, m, count))).same q);
    })

-- ---- the part of the domain

module _ (p : ℕ) (m : PairMap) (c : Carrying) (domain : PairCells) (range : PairCells) (B : BasisOfLog) (is_modulus : IsModulus p) (alike : AreOfOneDimension m.map m.x m.a m.y m.b) where
  abbrev top : ℕ
  top = top_of_map m.map m.x m.a m.y m.b

  top_is : IsCarrierOf p m c → c.dimension ≡ top
  top_is h = h.dimension ∙ sym (top_is_greatest m.map m.x m.a m.y m.b alike)

  module _ (A : BasisOfLog) (h : AreBasesOf p m c domain (cycles_alone A) range B) (all : List Table) (matrices : (k : ℕ) → k < length all → IsMatrixOf p c domain.cells (cycles_alone A) range.cells B k (nth all k)) where
    in_cycles : (k : ℕ) → k < length all → IsInducedTable p m.map.named m.x.cells m.a.cells m.y.cells m.b.cells (section_by p domain.cells A) (section_by p range.cells B) k (nth all k)
    in_cycles k l =
        let n = length (in_degree A.cycles k) in
        let zs = nth_by_cell domain.cells (in_degree A.cycles k) in
        let r = length (in_degree B.cycles k) in
        let ws = nth_by_cell range.cells (in_degree B.cycles k) in
        let w = matrices k l m.x.cells m.a.cells m.y.cells m.b.cells (pair_of_basis p m c domain (cycles_alone A) range B is_modulus h) in
        record {
          rows = w.rows;
          columns = w.columns;
          induced = subst (λ (f : List Naming). IsInducedMatrix p f (domain_of m) (range_of m) m.y.cells m.b.cells k n zs r ws (entry (nth all k))) h.carrier.map
              (subst (λ (d : List (List Factor)). IsInducedMatrix p c.map d (range_of m) m.y.cells m.b.cells k n zs r ws (entry (nth all k))) h.carrier.domain
              (subst (λ (d : List (List Factor)). IsInducedMatrix p c.map c.domain d m.y.cells m.b.cells k n zs r ws (entry (nth all k))) h.carrier.range w.induced));
        }

    tables_in : length all ≡ c.dimension + 1 → AreInducedTables p top m.map.named m.x.cells m.a.cells m.y.cells m.b.cells (section_by p domain.cells A) (section_by p range.cells B) all
    tables_in count = record { count = count ∙ ap (λ (n : ℕ). n + 1) (top_is h.carrier); each = in_cycles }

  pub domain_part_of : (A : CyclesOfLog) (part : PairPart p) (all : List Table) → AreBasesOf p m c domain A range B → IsPartOfCycles p m domain.cells A part → length all ≡ c.dimension + 1
      → ((k : ℕ) → k < length all → IsMatrixOf p c domain.cells A range.cells B k (nth all k))
      → IsDomainPart p top m.map.named m.x.cells m.a.cells m.y.cells m.b.cells (section_by p range.cells B) all part
  domain_part_of A part all h q count matrices =
      let there : AreBasesOf p m c domain (cycles_alone q.basis) range B = subst (λ (z : CyclesOfLog). AreBasesOf p m c domain z range B) q.same h in
      let moved = subst (λ (z : CyclesOfLog). (k : ℕ) → k < length all → IsMatrixOf p c domain.cells z range.cells B k (nth all k)) q.same matrices in
      based_domain p top m.map.named m.x.cells m.a.cells m.y.cells m.b.cells domain.cells q.basis (section_by p range.cells B) all part (omega (arith, two_le p is_modulus))
      there.of_domain.sorted there.of_domain.relative q.is q.is_part (tables_in q.basis there all moved count)

  -- ---- the file

  pub file_of_map : (A : CyclesOfLog) (part : PairPart p) (all : List Table) → AreBasesOf p m c domain A range B → IsPartOfCycles p m domain.cells A part → length all ≡ c.dimension + 1
      → (bytes : List ℕ) → IsMapWitness p m.map m.x m.a m.y m.b part range.cells B all bytes → (domain_report range_report : PairReport) → IsPartOf domain A.cycles c.dimension domain_report → IsPartOf range B.cycles c.dimension range_report
      → (tables : List (List (List ℕ))) → IsFilled [] (λ k. AreRowsOf p (nth all k)) (length all) tables → IsFileOfMap p m domain_report.cycles range_report.cycles tables bytes
  file_of_map A part all h q count bytes w domain_report range_report d r tables filled =
      let there : AreBasesOf p m c domain (cycles_alone q.basis) range B = subst (λ (z : CyclesOfLog). AreBasesOf p m c domain z range B) q.same h in
      let named : IsPartOf domain q.basis.cycles c.dimension domain_report = subst (λ (z : CyclesOfLog). IsPartOf domain z.cycles c.dimension domain_report) q.same d in
      record {
        header = w.header;
        tables = pair_tables top part;
        more = w.more;
        accepted = w.accepted;
        domain_cycles = λ k l. the_cycles p m.x.cells m.a.cells domain q.basis top (pair_tables top part) is_modulus there.of_domain q.is_part.tables k (omega (arith, l, h.carrier.dimension, top_is h.carrier))
            (get_or domain_report.cycles k []) (named.by_degree.cycle k (omega (arith, l, h.carrier.dimension)));
        range_cycles = λ k l. the_cycles p m.y.cells m.b.cells range B top w.more.range is_modulus there.of_range w.made.range k (omega (arith, l, h.carrier.dimension, top_is h.carrier))
            (get_or range_report.cycles k []) (r.by_degree.cycle k (omega (arith, l, h.carrier.dimension)));
        matrices_are = λ k l.
            let i : k < length all = omega (arith, l, count, h.carrier.dimension) in
            ap (λ (rs : List (List (List ℕ))). get_or rs k []) w.made.matrices ∙ rows_at all k i ∙ rows_are p (nth all k) (get_or tables k []) (filled.each k i);
      }
