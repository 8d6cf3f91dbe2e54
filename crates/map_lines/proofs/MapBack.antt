-- What was read of a map, or stands in a list of the form, as tables: they fit, and have these lines.
use Rattle.std.proofs.Common.{◌≡◌, ℕ, suc, ◌<◌, refl, sym, ap, ◌∙◌, arith, List, [], ◌∷◌, ◌++◌, length, get_or, map, subst, None, Some}
use Rattle.std.proofs.lemmas.List.{length-map}
use Rattle.std.specs.Prelude.{Option, codes}
use Rattle.elem_cubes.specs.Cells.{Factor}
use Rattle.cube_sets.specs.Closures.{cells_of}
use Rattle.homology_basis.specs.Bases.{in_degree}
use Rattle.witness_laws.specs.Lines.{Side, domain, range}
use Rattle.witness_laws.specs.Inputs.{Given, Target, target_in, target_of, x_of, a_of, relative_cells}
use Rattle.witness_laws.specs.Parts.{AreTerms, AreMatrices, nth, value_at}
use Rattle.witness_laws.specs.Tables.{Tables, PairTables, MapTables, IsTables, IsMapPart, IsMapTables, IsPairTables, pair_of, pair_lines, value_lines, matrix_lines}
use Rattle.witness_runs.specs.Cycles.{AreCycles}
use Rattle.section_reading.specs.Section.{degrees_of, kinds_of}
use Rattle.witness_reading.proofs.Forms.{Item}
use Rattle.witness_reading.proofs.Shapes.{word_item}
use Rattle.witness_reading.proofs.Runs.{heads, run_items}
use Rattle.witness_reading.proofs.Cycling.{cycle_items}
use Rattle.witness_reading.proofs.Flat.{flat_from}
use Rattle.witness_reading.proofs.PairValues.{tables_by, tables_fit, flat_is, flat_cocycles_are}
use Rattle.witness_reading.proofs.Items.{item_of_line, items_of, pair_kinds}
use Rattle.witness_reading.proofs.Pairs.{head_line, cell_numbers, cell_kinds, pair_items, flat_cycles, cocycle_chains}
use Rattle.witness_reading.proofs.PairForm.{chains_of_zipped}
use Rattle.map_lines.specs.Matrices.{size_in}
use Rattle.map_lines.proofs.Blocks.{blocks_items, AreBlocks}
use Rattle.map_lines.proofs.Rows.{matrices_items, AreMatrixRows}
use Rattle.map_lines.proofs.Values.{counts, block_at, values_items}
use Rattle.map_lines.proofs.MatrixValues.{all_full, full_are, shown_back}
use Rattle.map_lines.proofs.Sizes.{degree_size, size_above}
use Rattle.map_lines.proofs.MapForm.{naming, cubes, images, lines_are, matrices_are}

-- what a section has, and that it is as it should be
pub record PairContent (p top : ℕ) (x a : List (List Factor)) : Type 0 where
  pub cycles : List (ℕ × List (ℕ × ℕ))
  pub cocycles : List (List (ℕ × ℕ))
  pub homotopies : List (List (ℕ × ℕ))
  pub are : AreCycles p 0 top cycles
  pub beside_them : length cocycles ≡ length cycles
  pub cocycle_terms : (i : ℕ) → i < length cocycles → AreTerms p 0 (nth cocycles i)
  pub cells : length homotopies ≡ length (relative_cells x a)
  pub homotopy_terms : (i : ℕ) → i < length homotopies → AreTerms p 0 (nth homotopies i)

abbrev pub tables_in : {p top : ℕ} {x a : List (List Factor)} → PairContent p top x a → PairTables
tables_in {p} {top} {x} {a} c = tables_by top c.cycles c.cocycles c.homotopies

pub content_fits : (p top : ℕ) (x a : List (List Factor)) (c : PairContent p top x a) → IsPairTables p top x a (tables_in c)
content_fits p top x a c = tables_fit p top x a c.cycles c.cocycles c.homotopies c.are c.beside_them c.cocycle_terms c.cells c.homotopy_terms

-- the lines of a section
abbrev pub section_items : (p : ℕ) (G : Given) (side : Side) → List (ℕ × List (ℕ × ℕ)) → List (List (ℕ × ℕ)) → List (List (ℕ × ℕ)) → List Item → List Item
section_items p G side cs cocycles homotopies rest =
    word_item (head_line side) ∷ (cycle_items (pair_kinds G side) cs
    ++ (run_items p (codes "c") None (pair_kinds G side) (heads (degrees_of cs) (kinds_of cs)) cocycles
    ++ (run_items p (codes "h") None (pair_kinds G side) (heads (cell_numbers G side) (cell_kinds G side)) homotopies ++ rest)))

-- a value that has the tables of the content on a side has these lines there
pub section_laid : (p : ℕ) (G : Given) (W : Tables) (side : Side) (c : PairContent p G.top (x_of G side) (a_of G side)) (rest : List Item) → pair_of W side ≡ tables_in c
    → map (item_of_line G W) (pair_lines side (pair_of W side)) ++ rest ≡ section_items p G side c.cycles c.cocycles c.homotopies rest
section_laid p G W side c rest e =
    let x : List (List Factor) = x_of G side in
    let a : List (List Factor) = a_of G side in
    let fit : IsPairTables p G.top x a (pair_of W side) = subst (IsPairTables p G.top x a) (sym e) (content_fits p G.top x a c) in
    let zs_are : flat_cycles p G W side fit ≡ c.cycles =
    ap (λ (S : PairTables). flat_from 0 (suc G.top) (in_degree S.cycles)) e ∙ flat_is p G.top x a c.cycles c.cocycles c.homotopies c.are c.beside_them c.cocycle_terms c.cells c.homotopy_terms in
    let cs_are : cocycle_chains p G W side fit ≡ c.cocycles =
    ap (λ (S : PairTables). map (λ (z : ℕ × List (ℕ × ℕ)). z.1) (flat_from 0 (suc G.top) (in_degree S.cocycles))) e
    ∙ ap (map (λ (z : ℕ × List (ℕ × ℕ)). z.1)) (flat_cocycles_are p G.top x a c.cycles c.cocycles c.homotopies c.are c.beside_them c.cocycle_terms c.cells c.homotopy_terms)
    ∙ chains_of_zipped (degrees_of c.cycles) c.cocycles (c.beside_them ∙ sym (length-map c.cycles (λ (z : ℕ × List (ℕ × ℕ)). z.0))) in
    pair_items p G W side fit (λ ds zs. Unit {0}) rest tt
    ∙ ap (λ (l : List (ℕ × List (ℕ × ℕ))). section_items p G side l (cocycle_chains p G W side fit) (pair_of W side).homotopies rest) zs_are
    ∙ ap (λ (l : List (List (ℕ × ℕ))). section_items p G side c.cycles l (pair_of W side).homotopies rest) cs_are
    ∙ ap (λ (S : PairTables). section_items p G side c.cycles c.cocycles S.homotopies rest) e

-- ---- all that was read

module _ (p : ℕ) (G : Given) (T : Target) (is_target : G.target ≡ Some T)
    (cd : PairContent p G.top (x_of G domain) (a_of G domain)) (cr : PairContent p G.top (x_of G range) (a_of G range))
    (vs : List ℕ) (fs : List (List (List (ℕ × ℕ)))) (ms : List (List (ℕ × ℕ))) (blocks : AreBlocks p (naming p G) (cubes p G) (images p G) 0 vs fs ms) (cells : length vs ≡ length (cells_of (cubes p G)))
    (rows : List (List (List ℕ))) (many : length rows ≡ suc G.top) (are : AreMatrixRows p (size_in cr.cycles) (size_in cd.cycles) 0 rows) where
  abbrev H : ℕ → ℕ
  H = size_in cr.cycles

  abbrev X : ℕ → ℕ
  X = size_in cd.cycles

  abbrev pub map_tables : MapTables
  map_tables = record { range = tables_in cr; vertices = vs; fillings = fs; images = ms; matrices = all_full H X 0 rows }

  abbrev pub tables : Tables
  tables = record { domain = tables_in cd; map = Some map_tables }

  high : (k : ℕ) → length (in_degree (tables_in cr).cycles k) ≡ H k
  high = degree_size p G.top cr.cycles cr.are

  wide : (k : ℕ) → length (in_degree (tables_in cd).cycles k) ≡ X k
  wide = degree_size p G.top cd.cycles cd.are

  matrices_fit : AreMatrices p G.top (λ k. length (in_degree (tables_in cr).cycles k)) (λ k. length (in_degree (tables_in cd).cycles k)) (all_full H X 0 rows)
  matrices_fit =
      let m = full_are H X p G.top rows many are (size_above p G.top cr.cycles cr.are) in
      record {
        degrees = m.degrees;
        rows = λ k. m.rows k ∙ sym (high k);
        columns = λ k r l. m.columns k r (let e = high k in omega arith) ∙ sym (wide k);
        entries = λ k r s l n. m.entries k r s (let e = high k in omega arith) (let e = wide k in omega arith);
      }

  sizes : (length fs ≡ length vs) × (length ms ≡ length vs)
  sizes = counts p (naming p G) (cubes p G) (images p G) 0 vs fs ms blocks

  map_fits : (Q : Target) → (Some Q ≡ Some T) → G.target ≡ Some Q → IsMapTables p G Q (tables_in cd) map_tables
  map_fits Q e f = subst (λ (t : Option Target). IsMapTables p G (target_in t) (tables_in cd) map_tables) f here
    where
      here : IsMapTables p G (target_of G) (tables_in cd) map_tables
      here = record {
        range = content_fits p G.top (x_of G range) (a_of G range) cr;
        vertices = cells;
        values = sizes.0 ∙ cells;
        images = sizes.1 ∙ cells;
        fillings = λ i l. (block_at p (naming p G) (cubes p G) (images p G) 0 vs fs ms blocks i i (let z = sizes.0 in omega arith) (omega arith)).many;
        filling_terms = λ i m l. (block_at p (naming p G) (cubes p G) (images p G) 0 vs fs ms blocks i i (let z = sizes.0 in omega arith) (omega arith)).fillings m;
        image_terms = λ i l. (block_at p (naming p G) (cubes p G) (images p G) 0 vs fs ms blocks i i (let z = sizes.1 in omega arith) (omega arith)).image;
        matrices = matrices_fit;
      }

  pub fits : IsTables p G tables
  fits = record {
    domain = content_fits p G.top (x_of G domain) (a_of G domain) cd;
    map = subst (λ (t : Option Target). IsMapPart p G t (tables_in cd) (Some map_tables)) (sym is_target) (map_fits T refl is_target);
  }

  abbrev finish : List Item
  finish = word_item (codes "end\n") ∷ []

  abbrev pub matrix_items : List Item
  matrix_items = word_item (codes "matrix\n") ∷ (matrices_items 0 rows ++ finish)

  abbrev pub value_items : List Item
  value_items = word_item (codes "values\n") ∷ (blocks_items p (naming p G) (cubes p G) (images p G) 0 vs fs ms ++ matrix_items)

  abbrev pub all_items : List Item
  all_items = section_items p G domain cd.cycles cd.cocycles cd.homotopies (section_items p G range cr.cycles cr.cocycles cr.homotopies value_items)

  fillings_fit : (i : ℕ) → i < length fs → length (get_or fs i []) ≡ length (value_at G i)
  fillings_fit i l = (block_at p (naming p G) (cubes p G) (images p G) 0 vs fs ms blocks i i (let z = sizes.0 in omega arith) (omega arith)).many

  matrices_laid : map (item_of_line G tables) (matrix_lines (tables_in cd) map_tables) ++ finish ≡ matrix_items
  matrices_laid =
      ap (λ (l : List Item). l ++ finish)
      (matrices_are p G tables T is_target refl X (λ k. sym (wide k))
      ((content_fits p G.top (x_of G domain) (a_of G domain) cd).degrees ∙ sym (matrices_fit.degrees)) H
      ∙ ap (λ (m : List (List (List ℕ))). word_item (codes "matrix\n") ∷ matrices_items 0 m) (shown_back H X p 0 rows are))

  values_laid : map (item_of_line G tables) (value_lines map_tables) ++ (map (item_of_line G tables) (matrix_lines (tables_in cd) map_tables) ++ finish) ≡ value_items
  values_laid =
      ap (λ (l : List Item). map (item_of_line G tables) (value_lines map_tables) ++ l) matrices_laid
      ∙ ap (λ (l : List Item). l ++ matrix_items) (values_items p G tables (sym sizes.1) (sizes.0 ∙ sym sizes.1) fillings_fit)

  pub laid : items_of G tables ≡ all_items
  laid =
      lines_are p G tables T is_target refl
      ∙ ap (λ (l : List Item). map (item_of_line G tables) (pair_lines domain (tables_in cd)) ++ (map (item_of_line G tables) (pair_lines range (tables_in cr)) ++ l)) values_laid
      ∙ ap (λ (l : List Item). map (item_of_line G tables) (pair_lines domain (tables_in cd)) ++ l) (section_laid p G tables range cr value_items refl)
      ∙ section_laid p G tables domain cd (section_items p G range cr.cycles cr.cocycles cr.homotopies value_items) refl
