-- Matrices as lists of rows have the form of their tables, and their entries are products.
use Rattle.std.proofs.Common.{◌≡◌, ◌⊎◌, ℕ, ◌+◌, ◌*◌, ◌<◌, ◌≤◌, sym, ap, ◌∙◌, arith, inl, inr, ⊎_elim, List, [], length, get_or, map, subst}
use Rattle.std.proofs.lemmas.Bool.{cases_lt}
use Rattle.std.proofs.lemmas.List.{get_or_past, get_or-map, length-map}
use Rattle.field_mod.specs.Modular.{Same}
use Rattle.field_mod.proofs.Sums.{total_same}
use Rattle.field_mod.proofs.Modular.{same_trans, same-mul, same_refl}
use Rattle.elem_cubes.specs.Cells.{Factor}
use Rattle.elem_cubes.specs.Laws.{cell_at}
use Rattle.homology_basis.specs.Bases.{in_degree}
use Rattle.leray_conley.specs.Tables.{Table, IsTable, entry}
use Rattle.acyclic_values.specs.CarriedMaps.{image}
use Rattle.cube_maps.specs.CubeMaps.{Naming}
use Rattle.witness_laws.specs.Inputs.{Given, all_cells, relative_cells}
use Rattle.witness_laws.specs.Parts.{image_of, entry_of, AreMatrices}
use Rattle.witness_laws.specs.Sections.{Section, product_of_image}
use Rattle.witness_laws.specs.Tables.{PairTables, section_of}
use Rattle.witness_laws.proofs.Runs.{length_singles}
use Rattle.witness_types.specs.Rows.{row_of, rows_of}
use Rattle.witness_writing.specs.Runs.{table_at}
use Rattle.witness_writing.proofs.Filling.{found_at}
use Rattle.witness_writing.proofs.Pairs.{get_singles}
use Rattle.witness_parts.specs.Tables.{AreTablesOf}
use Rattle.map_parts.specs.Maps.{AreInducedTables}

within : (i j n m : ℕ) → i < n → j < m → i * m + j < n * m
within i j n m l k = grind arith

-- ---- rows and entries

pub length_rows : (t : Table) → length (rows_of t) ≡ t.rows
length_rows t = length_singles t.rows (row_of t)

pub row_at : (t : Table) (r : ℕ) → r < t.rows → get_or (rows_of t) r [] ≡ row_of t r
row_at t r l = get_singles t.rows (row_of t) [] r l

pub length_row : (t : Table) (r : ℕ) → length (row_of t r) ≡ t.columns
length_row t r = length_singles t.columns (entry t r)

pub entry_at : (t : Table) (r s : ℕ) → s < t.columns → get_or (row_of t r) s 0 ≡ entry t r s
entry_at t r s l = get_singles t.columns (entry t r) 0 s l

pub rows_at : (ms : List Table) (k : ℕ) → k < length ms → get_or (map rows_of ms) k [] ≡ rows_of (table_at ms k)
rows_at ms k l = get_or-map rows_of ms k (record { rows = 0; columns = 0; entries = [] }) [] l

-- ---- the form

module _ (p top : ℕ) (f : List Naming) (x a y b : List (List Factor)) (X Y : Section) (ms : List Table) (S N : PairTables) (ind : AreInducedTables p top f x a y b X Y ms)
    (tx : AreTablesOf p top x a X S) (ty : AreTablesOf p top y b Y N) where
  abbrev rs : List (List (List ℕ))
  rs = map rows_of ms

  abbrev height : ℕ → ℕ
  height k = length (in_degree N.cycles k)

  abbrev width : ℕ → ℕ
  width k = length (in_degree S.cycles k)

  low : (k : ℕ) → (k ≤ top) ⊎ (top + 1 ≤ k)
  low k = ⊎_elim (λ l. inl (omega (arith, l))) (λ l. inr l) (cases_lt k (top + 1))

  inside : (k : ℕ) → k ≤ top → k < length ms
  inside k l = omega (arith, ind.count, l)

  rows_are : (k : ℕ) → k ≤ top → (table_at ms k).rows ≡ height k
  rows_are k l = (ind.each k (inside k l)).rows ∙ sym (ty.cycles k l).count

  columns_are : (k : ℕ) → k ≤ top → (table_at ms k).columns ≡ width k
  columns_are k l = (ind.each k (inside k l)).columns ∙ sym (tx.cycles k l).count

  none_high : (k : ℕ) → top + 1 ≤ k → height k ≡ 0
  none_high k l = ap length (get_or_past N.cycles k [] (omega (arith, ty.degrees, l)))

  pub row_is : (k r : ℕ) → k ≤ top → r < height k → get_or (get_or rs k []) r [] ≡ row_of (table_at ms k) r
  row_is k r l q = ap (λ (t : List (List ℕ)). get_or t r []) (rows_at ms k (inside k l)) ∙ row_at (table_at ms k) r (omega (arith, rows_are k l, q))

  pub entry_is : (k r s : ℕ) → k ≤ top → r < height k → s < width k → entry_of rs k r s ≡ entry (table_at ms k) r s
  entry_is k r s l q m = ap (λ (t : List ℕ). get_or t s 0) (row_is k r l q) ∙ entry_at (table_at ms k) r s (omega (arith, columns_are k l, m))

  pub height_is : (k : ℕ) → length (get_or rs k []) ≡ height k
  height_is k = ⊎_elim
      (λ l. ap length (rows_at ms k (inside k l)) ∙ length_rows (table_at ms k) ∙ rows_are k l)
      (λ l. ap length (get_or_past rs k [] (omega (arith, length-map ms rows_of, ind.count, l))) ∙ sym (none_high k l))
      (low k)

  pub are_matrices : ((k : ℕ) → k < length ms → IsTable p (table_at ms k)) → AreMatrices p top height width rs
  are_matrices small = record {
    degrees = length-map ms rows_of ∙ ind.count;
    rows = height_is;
    columns = λ k r q. ⊎_elim
        (λ l. ap length (row_is k r l q) ∙ length_row (table_at ms k) r ∙ columns_are k l)
        (λ l. absurd (let z = none_high k l in omega (arith, z, q)))
        (low k);
    entries = λ k r s q m. ⊎_elim
        (λ l.
        let t : Table = table_at ms k in
        let w = small k (inside k l) in
        let b : r * t.columns + s < t.rows * t.columns = within r s t.rows t.columns (omega (arith, rows_are k l, q)) (omega (arith, columns_are k l, m)) in
        let d = w.below (r * t.columns + s) (omega (arith, w.count, b)) in
        subst (λ (v : ℕ). v < p) (sym (entry_is k r s l q m)) d)
        (λ l. absurd (let z = none_high k l in omega (arith, z, q)))
        (low k);
  }

-- ---- products of tables are those of the sections

module _ (p top : ℕ) (G : Given) (y b : List (List Factor)) (X Y : Section) (S N : PairTables) (f : List Factor → List Factor → ℕ) (images : List (List (ℕ × ℕ)))
    (alike : (c : List Factor → ℕ) (q : List Factor) → Same p (image (all_cells G.x G.a) (image_of G images) c q) (image (all_cells G.x G.a) f c q))
    (tx : AreTablesOf p top G.x G.a X S) (ty : AreTablesOf p top y b Y N) where
  abbrev ds : List (List Factor)
  ds = all_cells G.x G.a

  abbrev rel : List (List Factor)
  rel = relative_cells y b

  pub products_alike : (k r s : ℕ) → k ≤ top → r < Y.size k → s < X.size k
      → Same p (product_of_image ds rel (section_of G.x G.a S) (section_of y b N) (image_of G images) k r s) (product_of_image ds rel X Y f k r s)
  products_alike k r s l q m =
      let U : Section = section_of G.x G.a S in
      let W : Section = section_of y b N in
      total_same p (length rel) (λ g. W.cocycle k r (cell_at rel g) * image ds (image_of G images) (U.cycle k s) (cell_at rel g))
      (λ g. Y.cocycle k r (cell_at rel g) * image ds f (X.cycle k s) (cell_at rel g))
      (λ g _. same-mul (((ty.cocycles k l).at r q).same (cell_at rel g)) (same_trans (alike (U.cycle k s) (cell_at rel g))
      (total_same p (length ds) (λ i. U.cycle k s (cell_at ds i) * f (cell_at ds i) (cell_at rel g)) (λ i. X.cycle k s (cell_at ds i) * f (cell_at ds i) (cell_at rel g))
      (λ i _. same-mul (((tx.cycles k l).at s m).same (cell_at ds i)) (same_refl p (f (cell_at ds i) (cell_at rel g)))))))

-- one more matrix is a table
pub one_table : (p : ℕ) (ts : List Table) (n : ℕ) (t : Table) → n < length ts → t ≡ get_or ts n t → IsTable p t
    → ((k : ℕ) → k < n → IsTable p (table_at ts k)) → (k : ℕ) → k < n + 1 → IsTable p (table_at ts k)
one_table p ts n t l e is before k q = ⊎_elim
    (λ h. before k h)
    (λ h.
    let m : k ≡ n = omega (arith, q, h) in
    subst (λ (j : ℕ). IsTable p (table_at ts j)) (sym m) (subst (IsTable p) (found_at ts n t (record { rows = 0; columns = 0; entries = [] }) l e) is))
    (cases_lt k n)
