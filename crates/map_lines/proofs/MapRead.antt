-- A map's witness that was read: whole, or up to its first fault.
use Rattle.std.proofs.Common.{◌≡◌, ℕ, suc, ◌<◌, ◌≤◌, refl, sym, ap, ◌∙◌, arith, List, [], ◌∷◌, ◌++◌, length, map, subst, cond, ⊎_elim, None, Some}
use Rattle.std.proofs.lemmas.List.{map-append, length-map}
use Rattle.std.proofs.lemmas.Bool.{cases_Bool, eqb-true}
use Rattle.std.specs.Prelude.{Option, codes, ◌==◌}
use Rattle.leray_conley.specs.Tables.{Table}
use Rattle.cube_sets.specs.Closures.{cells_of}
use Rattle.witness_laws.specs.Lines.{Side, domain, range, lines_of, IsOneLine}
use Rattle.witness_laws.specs.Formats.{HasValue, MeetsFirst, texts_of}
use Rattle.witness_laws.specs.Inputs.{Given, Target, target_in, target_of, x_of, a_of, relative_cells}
use Rattle.witness_laws.specs.Parts.{relative_number}
use Rattle.witness_laws.specs.Tables.{Tables, MapTables, IsTables, IsMapPart, IsMapTables, map_in, map_of, tables_format}
use Rattle.witness_laws.proofs.Runs.{length_singles}
use Rattle.witness_laws.proofs.Texts.{texts_have_their_lines}
use Rattle.witness_types.specs.Parts.{IsInOrder}
use Rattle.witness_types.specs.Rows.{rows_of}
use Rattle.witness_types.specs.declared.part.PairPart.{PairPart}
use Rattle.witness_runs.specs.declared.miss.Stop.{Stop}
use Rattle.witness_runs.specs.Cycles.{AreCycles}
use Rattle.witness_runs.specs.Rows.{joined as joined_entries}
use Rattle.section_reading.specs.Section.{degrees_of, kinds_of}
use Rattle.read_parts.specs.declared.parts.ReadMap.{ReadMap}
use Rattle.read_parts.specs.declared.parts.Parts.{Parts}
use Rattle.read_parts.specs.Values.{parts_value}
use Rattle.witness_reading.specs.Ends.{IfTold, told_of}
use Rattle.witness_reading.specs.Reading.{IsRead, IsReadFault}
use Rattle.witness_reading.proofs.Forms.{Item, texts}
use Rattle.witness_reading.proofs.Faults.{IsForm}
use Rattle.witness_reading.proofs.Stops.{AllNames, all_names}
use Rattle.witness_reading.proofs.Shapes.{word_item}
use Rattle.witness_reading.proofs.Runs.{heads, length_heads, run_items, run_lines, run_names}
use Rattle.witness_reading.proofs.Cycling.{cycle_items}
use Rattle.witness_reading.proofs.Degrees.{run_back, cycles_rise}
use Rattle.witness_reading.proofs.Items.{items_of, pair_kinds, texts_of_items, tables_form}
use Rattle.witness_reading.proofs.Places.{cycles_lines, cycles_names}
use Rattle.witness_reading.proofs.Sections.{Section, Chains}
use Rattle.witness_reading.proofs.Pairs.{head_line, cell_numbers, cell_kinds}
use Rattle.witness_reading.proofs.PairForm.{End}
use Rattle.witness_reading.proofs.PairWhole.{tables_meet}
use Rattle.witness_reading.proofs.Ordering.{between, never_fall}
use Rattle.witness_reading.proofs.Telling.{told}
use Rattle.map_lines.specs.Matrices.{size_in, HasMatrices}
use Rattle.map_lines.specs.Whole.{HasPart, IsWholeMap, StopsMap}
use Rattle.map_lines.proofs.Blocks.{blocks_items, blocks_back, AreRead, blocks_read}
use Rattle.map_lines.proofs.Rows.{AreMatrixRows, matrices_items, matrices_back, matrices_names, lines_read, lines_many, lines_are, lines_split}
use Rattle.map_lines.proofs.MatrixValues.{full, all_full, rows_joined, empty_rows}
use Rattle.map_lines.proofs.MapForm.{naming, cubes, images, MatrixPart, ValuePart, RangePart, MapForm, map_form}
use Rattle.map_lines.proofs.MapBack.{PairContent, tables_in, section_items, tables, fits, value_items, laid}
use Rattle.map_lines.proofs.MapStops.{map_told}

only_end : (ys : List Item) → End ys → ys ≡ word_item (codes "end\n") ∷ []
only_end [] h = absurd h
only_end (y ∷ []) h = ap (λ (z : Item). z ∷ []) h.0
only_end (y ∷ x ∷ ys) h = absurd h.1

raised : (p low high top : ℕ) (cs : List (ℕ × List (ℕ × ℕ))) → high ≤ top → AreCycles p low high cs → AreCycles p low top cs
raised p low high top [] l a = let b : low ≤ high = a in omega arith
raised p low high top (c ∷ cs) l a = (a.0, a.1, raised p c.0 high top cs l a.2)

joined : (xs ys : List Item) → texts xs ++ texts ys ≡ texts (xs ++ ys)
joined xs ys = sym (map-append (λ (z : Item). z.text) xs ys)

-- ---- a section of the form, or one that was read, as content

pub record HasContent (p : ℕ) (G : Given) (side : Side) (K : List (ℕ × List (ℕ × ℕ)) → List Item → Type 0) (zs : List Item) : Type 0 where
  pub content : PairContent p G.top (x_of G side) (a_of G side)
  pub rest : List Item
  pub is : zs ≡ section_items p G side content.cycles content.cocycles content.homotopies rest
  pub allowed : K content.cycles rest

numbers_many : (G : Given) (side : Side) → length (heads (cell_numbers G side) (cell_kinds G side)) ≡ length (relative_cells (x_of G side) (a_of G side))
numbers_many G side = length_heads (cell_numbers G side) (cell_kinds G side) ∙ length_singles (length (relative_cells (x_of G side) (a_of G side))) (relative_number (x_of G side) (a_of G side))

section_back : (p : ℕ) (G : Given) (side : Side) (K : List (ℕ × List (ℕ × ℕ)) → List Item → Type 0) (zs : List Item)
    → Section p G.top (pair_kinds G side) (cell_numbers G side) (cell_kinds G side) K (head_line side) zs → HasContent p G side K zs
section_back p G side K [] h = absurd h
section_back p G side K (y ∷ ys) h =
    let table : List ℕ = pair_kinds G side in
    let cs = h.1.cycles in
    let zheads : List (ℕ × ℕ) = heads (degrees_of cs) (kinds_of cs) in
    let hheads : List (ℕ × ℕ) = heads (cell_numbers G side) (cell_kinds G side) in
    let b = run_back p (codes "c") None table zheads (Chains p G.top table (cell_numbers G side) (cell_kinds G side) K cs) h.1.rest h.1.allowed in
    let d = run_back p (codes "h") None table hheads (K cs) b.rest b.allowed in
    record {
      content = record {
        cycles = cs;
        cocycles = b.chains;
        homotopies = d.chains;
        are = h.1.are;
        beside_them = b.many ∙ length_heads (degrees_of cs) (kinds_of cs) ∙ length-map cs (λ (c : ℕ × List (ℕ × ℕ)). c.0);
        cocycle_terms = b.are;
        cells = d.many ∙ numbers_many G side;
        homotopy_terms = d.are;
      };
      rest = d.rest;
      is = ap (λ (z : Item). z ∷ ys) h.0 ∙ ap (λ (l : List Item). word_item (head_line side) ∷ l)
          (h.1.is ∙ ap (λ (l : List Item). cycle_items table cs ++ l)
          (b.is ∙ ap (λ (l : List Item). run_items p (codes "c") None table zheads b.chains ++ l) d.is));
      allowed = d.allowed;
    }

module _ (p : ℕ) (G : Given) (side : Side) (bytes : List ℕ) (part : PairPart p) (rest : List ℕ) (one : IsOneLine (head_line side))
    (h : HasPart p G.top (head_line side) (x_of G side) (a_of G side) bytes part.cycles.items part.cocycles.items part.homotopy.items rest) where
  abbrev table : List ℕ
  table = pair_kinds G side

  abbrev cs : List (ℕ × List (ℕ × ℕ))
  cs = part.cycles.items

  abbrev read_content : PairContent p G.top (x_of G side) (a_of G side)
  read_content = record {
    cycles = cs;
    cocycles = part.cocycles.items;
    homotopies = part.homotopy.items;
    are = raised p 0 h.pair.first.low G.top cs h.pair.first.has.below h.pair.first.has.are;
    beside_them = h.pair.second.run.many ∙ length-map cs (λ (c : ℕ × List (ℕ × ℕ)). c.0);
    cocycle_terms = λ i l. h.pair.second.run.are i (let e = h.pair.second.run.many in omega arith);
    cells = h.pair.third.many ∙ length_singles (length (relative_cells (x_of G side) (a_of G side))) (relative_number (x_of G side) (a_of G side));
    homotopy_terms = λ i l. h.pair.third.are i (let e = h.pair.third.many in omega arith);
  }

  abbrev cs_items : List Item
  cs_items = run_items p (codes "c") None table (heads (degrees_of cs) (kinds_of cs)) part.cocycles.items

  abbrev hs_items : List Item
  hs_items = run_items p (codes "h") None table (heads (cell_numbers G side) (cell_kinds G side)) part.homotopy.items

  section_lines : (last : List Item) → lines_of rest ≡ texts last → lines_of bytes ≡ texts (section_items p G side cs part.cocycles.items part.homotopy.items last)
  section_lines last e =
      ap lines_of h.split ∙ texts_have_their_lines.first (head_line side) h.behind_head one
      ∙ ap (λ (l : List (List ℕ)). head_line side ∷ l)
      (ap lines_of h.pair.first.has.split ∙ cycles_lines table cs h.pair.behind
      ∙ ap (λ (l : List (List ℕ)). texts (cycle_items table cs) ++ l)
      (ap lines_of h.pair.second.run.split ∙ run_lines p (codes "c") None table refl (degrees_of cs) (kinds_of cs) part.cocycles.items h.pair.last
      ∙ ap (λ (l : List (List ℕ)). texts cs_items ++ l)
      (ap lines_of h.pair.third.split ∙ run_lines p (codes "h") None table refl (cell_numbers G side) (cell_kinds G side) part.homotopy.items rest
      ∙ ap (λ (l : List (List ℕ)). texts hs_items ++ l) e ∙ joined hs_items last)
      ∙ joined cs_items (hs_items ++ last))
      ∙ joined (cycle_items table cs) (cs_items ++ (hs_items ++ last)))

  section_named : (last : List Item) → AllNames last → AllNames (section_items p G side cs part.cocycles.items part.homotopy.items last)
  section_named last a = (
    tt,
    all_names (cycle_items table cs) (cs_items ++ (hs_items ++ last)) (cycles_names table cs h.pair.first.has.names)
        (all_names cs_items (hs_items ++ last)
        (run_names p (codes "c") None table (degrees_of cs) (kinds_of cs) part.cocycles.items (λ i l. h.pair.second.names i (let e = h.pair.second.run.many in omega arith)))
        (all_names hs_items last
        (run_names p (codes "h") None table (cell_numbers G side) (cell_kinds G side) part.homotopy.items (λ i l. h.pair.names i (let e = h.pair.third.many in omega arith))) a)),
  )

  part_in_order : IsInOrder G.top part
  part_in_order =
      let ds : List ℕ = degrees_of cs in
      let n : length ds ≡ length cs = length-map cs (λ (z : ℕ × List (ℕ × ℕ)). z.0) in
      let r = cycles_rise p 0 G.top cs read_content.are in
      record {
        within = λ i l. (between 0 G.top ds r.1 i (omega arith)).1;
        order = λ i j l k. never_fall 0 G.top ds r.1 i j l (omega arith);
        cocycles = h.pair.second.run.many ∙ n;
      }

-- ---- each list of the form is one of a value

module _ (p : ℕ) (G : Given) (T : Target) (is_target : G.target ≡ Some T) where
  matrix_back : (cd : PairContent p G.top (x_of G domain) (a_of G domain)) (cr : PairContent p G.top (x_of G range) (a_of G range)) (zs : List Item) → MatrixPart p G cd.cycles cr.cycles zs
      → (rows : List (List (List ℕ))) × (length rows ≡ suc G.top) × AreMatrixRows p (size_in cr.cycles) (size_in cd.cycles) 0 rows
      × (zs ≡ word_item (codes "matrix\n") ∷ (matrices_items 0 rows ++ word_item (codes "end\n") ∷ []))
  matrix_back cd cr [] h = absurd h
  matrix_back cd cr (z ∷ zs) h =
      let w = matrices_back p (size_in cr.cycles) (size_in cd.cycles) 0 (suc G.top) End zs h.1 in
      (w.matrices, w.many, w.are, ap (λ (y : Item). y ∷ zs) h.0 ∙ ap (λ (l : List Item). word_item (codes "matrix\n") ∷ l) (w.is ∙ ap (λ (l : List Item). matrices_items 0 w.matrices ++ l) (only_end w.rest w.allowed)))

  value_back : (cd : PairContent p G.top (x_of G domain) (a_of G domain)) (cr : PairContent p G.top (x_of G range) (a_of G range)) (zs : List Item)
      → ValuePart p G cd.cycles cr.cycles zs → (V : Tables) × IsTables p G V × (items_of G V ≡ section_items p G domain cd.cycles cd.cocycles cd.homotopies
      (section_items p G range cr.cycles cr.cocycles cr.homotopies zs))
  value_back cd cr [] h = absurd h
  value_back cd cr (z ∷ zs) h =
      let b = blocks_back p (naming p G) (cubes p G) (images p G) 0 (length (cells_of (cubes p G))) (MatrixPart p G cd.cycles cr.cycles) zs h.1 in
      let m = matrix_back cd cr b.rest b.allowed in
      let e : value_items p G T is_target cd cr b.vertices b.fillings b.images b.are b.many m.0 m.1 m.2 ≡ z ∷ zs =
      sym (ap (λ (y : Item). y ∷ zs) h.0 ∙ ap (λ (l : List Item). word_item (codes "values\n") ∷ l)
      (b.is ∙ ap (λ (l : List Item). blocks_items p (naming p G) (cubes p G) (images p G) 0 b.vertices b.fillings b.images ++ l) m.3)) in (
        tables p G T is_target cd cr b.vertices b.fillings b.images b.are b.many m.0 m.1 m.2,
        fits p G T is_target cd cr b.vertices b.fillings b.images b.are b.many m.0 m.1 m.2,
        laid p G T is_target cd cr b.vertices b.fillings b.images b.are b.many m.0 m.1 m.2
            ∙ ap (λ (l : List Item). section_items p G domain cd.cycles cd.cocycles cd.homotopies (section_items p G range cr.cycles cr.cocycles cr.homotopies l)) e,
      )

  value_of : (zs : List Item) → MapForm p G zs → (W : Tables) × IsTables p G W × (texts_of (tables_format p G) W ≡ texts zs)
  value_of zs h =
      let d = section_back p G domain (RangePart p G) zs h in
      let r = section_back p G range (ValuePart p G d.content.cycles) d.rest d.allowed in
      let v = value_back d.content r.content r.rest r.allowed in
      let e : items_of G v.0 ≡ zs =
      v.2 ∙ ap (λ (l : List Item). section_items p G domain d.content.cycles d.content.cocycles d.content.homotopies l) (sym r.is) ∙ sym d.is in
      (v.0, v.1, sym (texts_of_items p G v.0) ∙ ap texts e)

  -- the lines of each value are of the form
  are : (W : Tables) → IsTables p G W → MapForm p G (items_of G W)
  are W w = by W.map refl (subst (λ (t : Option Target). IsMapPart p G t W.domain W.map) is_target w.map)
    where
      by : (m : Option MapTables) → W.map ≡ m → IsMapPart p G (Some T) W.domain W.map → MapForm p G (items_of G W)
      by None e i = absurd (subst (λ (o : Option MapTables). IsMapPart p G (Some T) W.domain o) e i)
      by (Some M) e i =
          let q : map_of W ≡ M = ap map_in e in
          let j : IsMapTables p G T W.domain M = subst (λ (o : Option MapTables). IsMapPart p G (Some T) W.domain o) e i in
          let t : T ≡ target_of G = ap target_in (sym is_target) in
          map_form p G W T is_target (e ∙ ap Some (sym q)) w (subst (λ (U : Target). IsMapTables p G U W.domain (map_of W)) t (subst (IsMapTables p G T W.domain) (sym q) j))

  pub map_is_form : IsForm (tables_format p G) (MapForm p G)
  map_is_form = tables_form p G (MapForm p G) are value_of

  -- ---- the first fault

  pub map_stops : 0 < p → (bytes : List ℕ) (ts : List (List ℕ)) (stop : Stop) → lines_of bytes ≡ ts → IfTold (StopsMap p G bytes) stop → IsReadFault p G ts (told_of bytes stop)
  map_stops positive bytes ts stop e s = told p G (MapForm p G) map_is_form bytes ts stop e (map_told p positive G bytes stop s)

-- ---- all was read

-- the rows of tables that were read
rows_read : (p : ℕ) (height width : ℕ → ℕ) (k : ℕ) (bytes : List ℕ) (ts : List Table) (rest : List ℕ) (h : HasMatrices p height width k bytes ts rest)
    → all_full height width k (lines_read p height width k bytes ts rest h) ≡ map rows_of ts
rows_read p height width k bytes [] rest h = refl
rows_read p height width k bytes (t ∷ ts) rest h =
    ap (λ (x : List (List ℕ)). x ∷ all_full height width (suc k) (lines_read p height width (suc k) h.0 ts rest h.2)) here
    ∙ ap (λ (l : List (List (List ℕ))). rows_of t ∷ l) (rows_read p height width (suc k) h.0 ts rest h.2)
  where
    no_entries : (n w : ℕ) (es : List ℕ) → w ≡ 0 → empty_rows n ≡ rows_of (record { rows = n; columns = w; entries = es })
    no_entries n w es e = subst (λ (v : ℕ). empty_rows n ≡ rows_of (record { rows = n; columns = v; entries = es })) (sym e) refl

    table_is : (t : Table) (n w : ℕ) → t.rows ≡ n → t.columns ≡ w → rows_of (record { rows = n; columns = w; entries = t.entries }) ≡ rows_of t
    table_is t n w e f = sym (ap (λ (v : ℕ). rows_of (record { rows = v; columns = t.columns; entries = t.entries })) e ∙ ap (λ (v : ℕ). rows_of (record { rows = n; columns = v; entries = t.entries })) f)

    here : full (height k) (width k) h.1.has.rows ≡ rows_of t
    here = ⊎_elim
        (λ q. ap (λ b. cond b (empty_rows (height k)) h.1.has.rows) q ∙ no_entries (height k) (width k) t.entries (eqb-true (width k) 0 q) ∙ table_is t (height k) (width k) h.1.rows h.1.columns)
        (λ q.
        let n : length h.1.has.rows ≡ height k = h.1.has.many ∙ ap (λ b. cond b 0 (height k)) q in
        ap (λ b. cond b (empty_rows (height k)) h.1.has.rows) q
        ∙ sym (rows_joined p (width k) h.1.has.rows h.1.has.are)
        ∙ ap (λ (v : ℕ). rows_of (record { rows = v; columns = width k; entries = joined_entries h.1.has.rows })) n
        ∙ ap (λ (l : List ℕ). rows_of (record { rows = height k; columns = width k; entries = l })) (sym h.1.has.entries_are)
        ∙ table_is t (height k) (width k) h.1.rows h.1.columns)
        (cases_Bool (width k == 0))

values_one : IsOneLine (codes "values\n")
values_one = record { before = codes "values"; none = refl; ends = refl }

matrix_one : IsOneLine (codes "matrix\n")
matrix_one = record { before = codes "matrix"; none = refl; ends = refl }

side_one : (side : Side) → IsOneLine (head_line side)
side_one domain = record { before = codes "pair domain"; none = refl; ends = refl }
side_one range = record { before = codes "pair range"; none = refl; ends = refl }

module _ (p : ℕ) (G : Given) (T : Target) (is_target : G.target ≡ Some T) (bytes : List ℕ) (part : PairPart p) (m : ReadMap p) (w : IsWholeMap G bytes part m) where
  abbrev fs : List (List (List (ℕ × ℕ)))
  fs = map (λ v. v.items) m.contractions.items

  abbrev cd : PairContent p G.top (x_of G domain) (a_of G domain)
  cd = read_content p G domain bytes part w.pairs.middle (side_one domain) w.pairs.first

  abbrev cr : PairContent p G.top (x_of G range) (a_of G range)
  cr = read_content p G range w.pairs.middle m.range w.behind (side_one range) w.pairs.second

  blocks : AreRead p (naming p G) (cubes p G) (images p G) 0 w.values.behind m.vertices.items fs m.images.items w.last
  blocks = blocks_read p (naming p G) (cubes p G) (images p G) 0 w.values.behind m.vertices.items fs m.images.items w.last w.values.cells.cells

  abbrev has : HasMatrices p (size_in m.range.cycles.items) (size_in part.cycles.items) 0 w.matrices.behind m.rows.items (codes "end\n")
  has = w.matrices.matrices.matrices

  abbrev rows : List (List (List ℕ))
  rows = lines_read p (size_in m.range.cycles.items) (size_in part.cycles.items) 0 w.matrices.behind m.rows.items (codes "end\n") has

  rows_many : length rows ≡ suc G.top
  rows_many = lines_many p (size_in m.range.cycles.items) (size_in part.cycles.items) 0 w.matrices.behind m.rows.items (codes "end\n") has ∙ w.matrices.matrices.many

  rows_are : AreMatrixRows p (size_in m.range.cycles.items) (size_in part.cycles.items) 0 rows
  rows_are = lines_are p (size_in m.range.cycles.items) (size_in part.cycles.items) 0 w.matrices.behind m.rows.items (codes "end\n") has

  abbrev W : Tables
  W = tables p G T is_target cd cr m.vertices.items fs m.images.items blocks.are w.values.cells.many rows rows_many rows_are

  abbrev finish : List Item
  finish = word_item (codes "end\n") ∷ []

  abbrev matrix_part : List Item
  matrix_part = word_item (codes "matrix\n") ∷ (matrices_items 0 rows ++ finish)

  abbrev value_part : List Item
  value_part = word_item (codes "values\n") ∷ (blocks_items p (naming p G) (cubes p G) (images p G) 0 m.vertices.items fs m.images.items ++ matrix_part)

  abbrev parts : Parts p
  parts = record { domain = part; map = Some m }

  value_is : W ≡ parts_value G parts
  value_is = ap (λ (ms : List (List (List ℕ))). record {
    domain = tables_in cd;
    map = Some (record { range = tables_in cr; vertices = m.vertices.items; fillings = fs; images = m.images.items; matrices = ms });
  })
      (rows_read p (size_in m.range.cycles.items) (size_in part.cycles.items) 0 w.matrices.behind m.rows.items (codes "end\n") has)

  matrix_lines_are : lines_of w.last ≡ texts matrix_part
  matrix_lines_are =
      ap lines_of w.matrices.split ∙ texts_have_their_lines.first (codes "matrix\n") w.matrices.behind matrix_one
      ∙ ap (λ (l : List (List ℕ)). codes "matrix\n" ∷ l)
      (lines_split p (size_in m.range.cycles.items) (size_in part.cycles.items) 0 w.matrices.behind m.rows.items (codes "end\n") has ∙ joined (matrices_items 0 rows) finish)

  value_lines_are : lines_of w.behind ≡ texts value_part
  value_lines_are =
      ap lines_of w.values.split ∙ texts_have_their_lines.first (codes "values\n") w.values.behind values_one
      ∙ ap (λ (l : List (List ℕ)). codes "values\n" ∷ l)
      (blocks.lines ∙ ap (λ (l : List (List ℕ)). texts (blocks_items p (naming p G) (cubes p G) (images p G) 0 m.vertices.items fs m.images.items) ++ l) matrix_lines_are
      ∙ joined (blocks_items p (naming p G) (cubes p G) (images p G) 0 m.vertices.items fs m.images.items) matrix_part)

  abbrev range_part : List Item
  range_part = section_items p G range m.range.cycles.items m.range.cocycles.items m.range.homotopy.items value_part

  abbrev whole_part : List Item
  whole_part = section_items p G domain part.cycles.items part.cocycles.items part.homotopy.items range_part

  all_lines_are : lines_of bytes ≡ texts whole_part
  all_lines_are = section_lines p G domain bytes part w.pairs.middle (side_one domain) w.pairs.first range_part
      (section_lines p G range w.pairs.middle m.range w.behind (side_one range) w.pairs.second value_part value_lines_are)

  all_are_named : AllNames whole_part
  all_are_named =
      section_named p G domain bytes part w.pairs.middle (side_one domain) w.pairs.first range_part
      (section_named p G range w.pairs.middle m.range w.behind (side_one range) w.pairs.second value_part (
        tt,
        all_names (blocks_items p (naming p G) (cubes p G) (images p G) 0 m.vertices.items fs m.images.items) matrix_part blocks.names
            (tt, all_names (matrices_items 0 rows) finish (matrices_names 0 rows) (tt, tt)),
      ))

  items_are : items_of G W ≡ whole_part
  items_are = laid p G T is_target cd cr m.vertices.items fs m.images.items blocks.are w.values.cells.many rows rows_many rows_are

  has_value : HasValue (tables_format p G) (lines_of bytes) W
  has_value = record {
    fits = fits p G T is_target cd cr m.vertices.items fs m.images.items blocks.are w.values.cells.many rows rows_many rows_are;
    lines = sym (texts_of_items p G W) ∙ ap texts items_are ∙ sym all_lines_are;
  }

  pub map_read : (ts : List (List ℕ)) → lines_of bytes ≡ ts → IsRead p G ts parts
  map_read ts e = record {
    has = subst (HasValue (tables_format p G) ts) value_is (subst (λ (l : List (List ℕ)). HasValue (tables_format p G) l W) e has_value);
    first = subst (MeetsFirst (tables_format p G)) value_is (tables_meet p G W (subst AllNames (sym items_are) all_are_named));
    order = part_in_order p G domain bytes part w.pairs.middle (side_one domain) w.pairs.first;
    range_order = part_in_order p G range w.pairs.middle m.range w.behind (side_one range) w.pairs.second;
  }
