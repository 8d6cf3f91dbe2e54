-- The lines of a map whose tables are those of sections, contractions, images and matrices meet all laws.
use Rattle.std.proofs.Common.{◌≡◌, ℕ, ◌<◌, ◌≤◌, sym, ap, ◌∙◌, arith, inl, inr, ⊎_elim, List, [], ◌∷◌, ◌++◌, length, get_or, Bool, true, false, cond, eqb, subst}
use Rattle.field_mod.specs.Modular.{Same}
use Rattle.field_mod.proofs.Modular.{same_sym, same_trans}
use Rattle.elem_cubes.specs.Cells.{Factor}
use Rattle.elem_cubes.proofs.Members.{In, In-append}
use Rattle.elem_cubes.proofs.Modular.{exact}
use Rattle.chains.specs.Homology.{IsChain}
use Rattle.cell_complex.specs.RelativeComplex.{relative_complex}
use Rattle.cube_maps.specs.CubeMaps.{Naming}
use Rattle.homology_basis.specs.Bases.{in_degree}
use Rattle.leray_conley.specs.Tables.{Table, IsTable, entry}
use Rattle.acyclic_values.specs.CarriedMaps.{image as image_by}
use Rattle.map_checks.specs.Faults.{HasNoSetFault}
use Rattle.witness_laws.specs.declared.law.Law.{Law}
use Rattle.witness_laws.specs.declared.law.Law.TheVariants as laws
use Rattle.witness_laws.specs.Lines.{domain, range, Line, values, vertex, filling, image, matrix, row, end, each}
use Rattle.witness_laws.specs.Formats.{MeetsLaws}
use Rattle.witness_laws.specs.Inputs.{Given, all_cells, relative_cells}
use Rattle.witness_laws.specs.Parts.{entry_of, image_of, range_cells, value_at, AreMatrices}
use Rattle.witness_laws.specs.Sections.{Section, IsSection, product_of_image}
use Rattle.witness_laws.specs.Tables.{PairTables, MapTables, Tables, IsTables, section_of, pair_lines, value_lines, matrix_lines, lines_of_tables, holds, tables_format}
use Rattle.witness_writing.specs.Runs.{table_at}
use Rattle.witness_parts.specs.Tables.{AreTablesOf, HasAtMost}
use Rattle.witness_parts.proofs.Meeting.{IsGood, each_In, once_In, pair_fits, side_good, end_good, all_meet}
use Rattle.map_parts.specs.Values.{IsFiledContraction}
use Rattle.map_parts.specs.Maps.{map_given, map_value, AreMapTablesOf, AreInducedTables}
use Rattle.map_parts.proofs.Contracted as contracted
use Rattle.map_parts.proofs.Imaged as imaged
use Rattle.map_parts.proofs.Produced.{products_of_class}
use Rattle.map_parts.proofs.Tabled.{height_is, entry_is, are_matrices, products_alike}

-- a line on which no law says anything
values_good : (p : ℕ) (G : Given) (W : Tables) → IsGood p G W values
values_good p G W = record { names = tt; laws = at }
  where
    at : (law : Law) → holds p G W law values
    at laws.Text = tt
    at laws.Header = tt
    at laws.Cell = tt
    at laws.Cycle = tt
    at laws.Dual = tt
    at laws.Cocycle = tt
    at laws.Contraction = tt
    at laws.ValueContraction = tt
    at laws.Carried = tt
    at laws.Augmentation = tt
    at laws.Commutes = tt
    at laws.Matrix = tt

matrix_good : (p : ℕ) (G : Given) (W : Tables) → IsGood p G W matrix
matrix_good p G W = record { names = tt; laws = at }
  where
    at : (law : Law) → holds p G W law matrix
    at laws.Text = tt
    at laws.Header = tt
    at laws.Cell = tt
    at laws.Cycle = tt
    at laws.Dual = tt
    at laws.Cocycle = tt
    at laws.Contraction = tt
    at laws.ValueContraction = tt
    at laws.Carried = tt
    at laws.Augmentation = tt
    at laws.Commutes = tt
    at laws.Matrix = tt

-- what is accepted of a map
pub record IsMapAccepted (p : ℕ) (G : Given) (W : Tables) : Type 0 where
  pub fits : IsTables p G W
  pub meets : MeetsLaws (tables_format p G) W

module _ (p top : ℕ) (f : List Naming) (x a y b : List (List Factor)) (X Y : Section) (ms : List Table) (S : PairTables) (M : MapTables)
    (nf : HasNoSetFault f x a y b)
    (wx : IsSection p x a (relative_cells x a) X) (wy : IsSection p y b (relative_cells y b) Y)
    (cx : (k i : ℕ) → i < X.size k → IsChain p (relative_complex p x a) k (X.cocycle k i)) (cy : (k i : ℕ) → i < Y.size k → IsChain p (relative_complex p y b) k (Y.cocycle k i))
    (mx : HasAtMost top x a) (my : HasAtMost top y b)
    (tx : AreTablesOf p top x a X S) (tm : AreMapTablesOf p top f x a y b Y ms M)
    (ind : AreInducedTables p top f x a y b X Y ms) (small : (k : ℕ) → k < length ms → IsTable p (table_at ms k)) where
  abbrev G : Given
  G = map_given top f x a y b

  abbrev W : Tables
  W = map_value S M

  abbrev n : ℕ
  n = length (all_cells x a)

  abbrev N : PairTables
  N = M.range

  value : (i : ℕ) → i < n → IsFiledContraction p (range_cells G) (value_at G i) (get_or M.vertices i 0) (get_or M.fillings i [])
  value i l = tm.cells.values.at i l

  many : length M.images ≡ n
  many = tm.cells.images.filed.count

  -- ---- the form

  fits : IsTables p G W
  fits = record {
    domain = pair_fits p top x a X S tx;
    map = record {
      range = pair_fits p top y b Y N tm.range;
      vertices = tm.cells.values.vertex_count;
      values = tm.cells.values.count;
      images = many;
      fillings = λ i l. (value i (omega (arith, l, tm.cells.values.count))).filed.count;
      filling_terms = λ i m l q. let w = value i (omega (arith, l, tm.cells.values.count)) in (w.filed.at m (omega (arith, q, w.filed.count))).terms;
      image_terms = λ i l. (tm.cells.images.filed.at i (omega (arith, l, many))).terms;
      matrices = subst (λ (rs : List (List (List ℕ))). AreMatrices p top (λ k. length (in_degree N.cycles k)) (λ k. length (in_degree S.cycles k)) rs) (sym tm.matrices)
          (are_matrices p top f x a y b X Y ms S N ind tx tm.range small);
    };
  }

  -- ---- the lines of the values

  vertex_good : (i : ℕ) → i < n → IsGood p G W (vertex i)
  vertex_good i l = record { names = contracted.vertex_names p G M nf i l (value i l); laws = at }
    where
      at : (law : Law) → holds p G W law (vertex i)
      at laws.Text = tt
      at laws.Header = tt
      at laws.Cell = tt
      at laws.Cycle = tt
      at laws.Dual = tt
      at laws.Cocycle = tt
      at laws.Contraction = tt
      at laws.ValueContraction = tt
      at laws.Carried = tt
      at laws.Augmentation = tt
      at laws.Commutes = tt
      at laws.Matrix = tt

  filling_good : (i m : ℕ) → i < n → m < length (get_or M.fillings i []) → IsGood p G W (filling i m)
  filling_good i m l q = record { names = contracted.filling_names p G M nf i l (value i l) m here; laws = at }
    where
      here : m < length (value_at G i)
      here = let e = (value i l).filed.count in omega (arith, e, q)

      at : (law : Law) → holds p G W law (filling i m)
      at laws.Text = tt
      at laws.Header = tt
      at laws.Cell = tt
      at laws.Cycle = tt
      at laws.Dual = tt
      at laws.Cocycle = tt
      at laws.Contraction = tt
      at laws.ValueContraction = contracted.value_contracts p G M nf i l (value i l) m here
      at laws.Carried = tt
      at laws.Augmentation = tt
      at laws.Commutes = tt
      at laws.Matrix = tt

  image_good : (i : ℕ) → i < n → IsGood p G W (image i)
  image_good i l = record { names = imaged.degrees p G M.images nf tm.cells.images.map tm.cells.images.carried tm.cells.images.filed i l; laws = at }
    where
      at : (law : Law) → holds p G W law (image i)
      at laws.Text = tt
      at laws.Header = tt
      at laws.Cell = tt
      at laws.Cycle = tt
      at laws.Dual = tt
      at laws.Cocycle = tt
      at laws.Contraction = tt
      at laws.ValueContraction = tt
      at laws.Carried = imaged.on_values p G M.images nf tm.cells.images.map tm.cells.images.carried tm.cells.images.filed i l
      at laws.Augmentation = imaged.augmented p G M.images nf tm.cells.images.map tm.cells.images.carried tm.cells.images.filed i l
      at laws.Commutes = imaged.commuting p G M.images nf tm.cells.images.map tm.cells.images.carried tm.cells.images.filed i l
      at laws.Matrix = tt

  abbrev fs : ℕ → List Line
  fs i = each (length (get_or M.fillings i [])) (λ m. filling i m ∷ [])

  cell_good : (i : ℕ) → i < n → (l : Line) → In (vertex i ∷ fs i ++ image i ∷ []) l → IsGood p G W l
  cell_good i q l (inl e) = subst (IsGood p G W) e (vertex_good i q)
  cell_good i q l (inr h) = ⊎_elim
      (λ k. let s = once_In (length (get_or M.fillings i [])) (filling i) l k in subst (IsGood p G W) s.2 (filling_good i s.0 q s.1))
      (λ k. ⊎_elim (λ e. subst (IsGood p G W) e (image_good i q)) (λ z. absurd z) k)
      (In-append (fs i) (image i ∷ []) l h)

  value_good : (l : Line) → In (value_lines M) l → IsGood p G W l
  value_good l (inl e) = subst (IsGood p G W) e (values_good p G W)
  value_good l (inr h) =
      let r = each_In (length M.images) (λ i. vertex i ∷ fs i ++ image i ∷ []) l h in
      cell_good r.0 (let k = r.1 in omega (arith, k, many)) l r.2

  -- ---- the lines of the matrices

  row_law : (k r : ℕ) → k ≤ top → r < length (in_degree N.cycles k) → (s : ℕ) → s < length (in_degree S.cycles k)
      → Same p (entry_of M.matrices k r s) (product_of_image (all_cells x a) (relative_cells y b) (section_of x a S) (section_of y b N) (image_of G M.images) k r s)
  row_law k r l q s m =
      let t : Table = table_at ms k in
      let in_y : r < Y.size k = (let e = (tm.range.cycles k l).count in omega (arith, e, q)) in
      let in_x : s < X.size k = (let e = (tx.cycles k l).count in omega (arith, e, m)) in
      let d = ind.each k (omega (arith, ind.count, l)) in
      let e : entry_of M.matrices k r s ≡ entry t r s = ap (λ (rs : List (List (List ℕ))). entry_of rs k r s) tm.matrices ∙ entry_is p top f x a y b X Y ms S N ind tx tm.range k r s l q m in
      let g : Same p (entry t r s) (product_of_image (all_cells x a) (relative_cells y b) X Y tm.cells.images.map k r s) =
      products_of_class p y b (relative_cells y b) Y wy k (image_by (all_cells x a) tm.cells.images.map (X.cycle k s)) (λ i. entry t i s)
      (d.induced tm.cells.images.map tm.cells.images.carried s in_x) r in_y in
      same_trans (exact p e) (same_trans g (same_sym (products_alike p top G y b X Y S N tm.cells.images.map M.images
      (imaged.images_alike p G M.images nf tm.cells.images.map tm.cells.images.carried tm.cells.images.filed) tx tm.range k r s l in_y in_x)))

  row_good : (k r : ℕ) → k ≤ top → r < length (in_degree N.cycles k) → IsGood p G W (row k r)
  row_good k r l q = record { names = tt; laws = at }
    where
      at : (law : Law) → holds p G W law (row k r)
      at laws.Text = tt
      at laws.Header = tt
      at laws.Cell = tt
      at laws.Cycle = tt
      at laws.Dual = tt
      at laws.Cocycle = tt
      at laws.Contraction = tt
      at laws.ValueContraction = tt
      at laws.Carried = tt
      at laws.Augmentation = tt
      at laws.Commutes = tt
      at laws.Matrix = row_law k r l q

  abbrev lines_in : ℕ → List Line
  lines_in k = each (length (get_or M.matrices k [])) (λ r. row k r ∷ [])

  degree_good : (k : ℕ) → k ≤ top → (l : Line) → In (lines_in k) l → IsGood p G W l
  degree_good k q l h =
      let s = once_In (length (get_or M.matrices k [])) (row k) l h in
      let e : length (get_or M.matrices k []) ≡ length (in_degree N.cycles k) =
      ap (λ (rs : List (List (List ℕ))). length (get_or rs k [])) tm.matrices ∙ height_is p top f x a y b X Y ms S N ind tx tm.range k in
      subst (IsGood p G W) s.2 (row_good k s.0 q (let m = s.1 in omega (arith, e, m)))

  either : (v : Bool) (ls : List Line) (l : Line) → In (cond v [] ls) l → In ls l
  either true ls l h = absurd h
  either false ls l h = h

  rows_good : (l : Line) → In (matrix_lines S M) l → IsGood p G W l
  rows_good l (inl e) = subst (IsGood p G W) e (matrix_good p G W)
  rows_good l (inr h) =
      let r = each_In (length S.cycles) (λ k. cond (eqb (length (in_degree S.cycles k)) 0) [] (lines_in k)) l h in
      degree_good r.0 (let k = r.1 in omega (arith, k, tx.degrees)) l (either (eqb (length (in_degree S.cycles r.0)) 0) (lines_in r.0) l r.2)

  -- ---- all lines

  abbrev ps : List Line
  ps = pair_lines range N

  abbrev vs : List Line
  vs = value_lines M

  abbrev rs : List Line
  rs = matrix_lines S M

  good : (l : Line) → In (lines_of_tables W) l → IsGood p G W l
  good l h = ⊎_elim
      (λ k. ⊎_elim
      (side_good p G W domain X wx cx mx tx l)
      (λ q. ⊎_elim
      (λ z. ⊎_elim (side_good p G W range Y wy cy my tm.range l) (value_good l) (In-append ps vs l z))
      (rows_good l)
      (In-append (ps ++ vs) rs l q))
      (In-append (pair_lines domain S) (ps ++ vs ++ rs) l k))
      (λ k. ⊎_elim (λ e. subst (IsGood p G W) e (end_good p G W)) (λ z. absurd z) k)
      (In-append (pair_lines domain S ++ (ps ++ vs ++ rs)) (end ∷ []) l h)

  pub map_accepted : IsMapAccepted p G W
  map_accepted = record { fits = fits; meets = all_meet p G W good }
