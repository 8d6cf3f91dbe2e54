-- Version 1 for a map as a form: its values have these lists of lines, and each list is one of a value.
use Rattle.std.proofs.Common.{◌≡◌, ℕ, suc, ◌+◌, refl, sym, ap, ◌∙◌, arith, List, [], ◌∷◌, ◌++◌, length, get_or, map, append_assoc, subst, cond, Bool, true, false, Some}
use Rattle.std.proofs.lemmas.List.{map-append}
use Rattle.std.specs.Prelude.{Option, codes, ◌==◌}
use Rattle.elem_cubes.specs.Cells.{Factor}
use Rattle.cube_sets.specs.Closures.{cells_of}
use Rattle.cube_maps.specs.CubeMaps.{Naming}
use Rattle.homology_basis.specs.Bases.{in_degree}
use Rattle.map_checks.specs.Faults.{together}
use Rattle.witness_laws.specs.Lines.{Line, domain, range, end, each, row}
use Rattle.witness_laws.specs.Inputs.{Given, Target, target_of}
use Rattle.witness_laws.specs.Tables.{Tables, MapTables, map_of, IsTables, IsMapTables, pair_lines, value_lines, matrix_lines, map_lines}
use Rattle.witness_laws.proofs.Runs.{map_each, each_same}
use Rattle.witness_reading.proofs.Forms.{Item, Then}
use Rattle.witness_reading.proofs.Shapes.{word_item, IsWordItem}
use Rattle.witness_reading.proofs.Items.{item_of_line, items_of, pair_kinds}
use Rattle.witness_reading.proofs.Sections.{Section}
use Rattle.witness_reading.proofs.Flat.{each_of_list}
use Rattle.witness_reading.proofs.Pairs.{head_line, cell_numbers, cell_kinds, section_form, flat_cycles}
use Rattle.witness_reading.proofs.PairForm.{End}
use Rattle.map_lines.specs.Cells.{value_in}
use Rattle.map_lines.specs.Matrices.{size_in}
use Rattle.map_lines.proofs.Blocks.{Blocks, blocks_items, blocks_form, AreBlocks}
use Rattle.map_lines.proofs.Rows.{row_item, row_items, Matrices, matrices_items, matrices_form, AreMatrixRows}
use Rattle.map_lines.proofs.Values.{are_blocks, values_items}
use Rattle.map_lines.proofs.MatrixValues.{shown, all_shown, all_shown_many, items_by, shown_rows}
use Rattle.map_lines.proofs.Sizes.{flat_size}

-- ---- the form

module _ (p : ℕ) (G : Given) where
  abbrev pub naming : List Naming
  naming = (target_of G).map

  abbrev pub cubes : List (List Factor)
  cubes = together G.x G.a

  abbrev pub images : List (List Factor)
  images = together (target_of G).y (target_of G).b

  -- the matrices of these cycles of the domain and of the range, and the end
  abbrev pub MatrixPart : List (ℕ × List (ℕ × ℕ)) → List (ℕ × List (ℕ × ℕ)) → List Item → Type 0
  MatrixPart cs ds = Then (IsWordItem (codes "matrix\n")) (λ _. Matrices p (size_in ds) (size_in cs) 0 (suc G.top) End)

  -- and the values in front of them
  abbrev pub ValuePart : List (ℕ × List (ℕ × ℕ)) → List (ℕ × List (ℕ × ℕ)) → List Item → Type 0
  ValuePart cs ds = Then (IsWordItem (codes "values\n")) (λ _. Blocks p naming cubes images 0 (length (cells_of cubes)) (MatrixPart cs ds))

  abbrev pub RangePart : List (ℕ × List (ℕ × ℕ)) → List Item → Type 0
  RangePart cs = Section p G.top (pair_kinds G range) (cell_numbers G range) (cell_kinds G range) (ValuePart cs) (head_line range)

  abbrev pub MapForm : List Item → Type 0
  MapForm = Section p G.top (pair_kinds G domain) (cell_numbers G domain) (cell_kinds G domain) RangePart (head_line domain)

-- ---- the lines of a value

module _ (p : ℕ) (G : Given) (W : Tables) (T : Target) (is_target : G.target ≡ Some T) (has_map : W.map ≡ Some (map_of W)) where
  abbrev g : Line → Item
  g = item_of_line G W

  abbrev M : MapTables
  M = map_of W

  abbrev finish : List Item
  finish = word_item (codes "end\n") ∷ []

  four : (a b c d e : List Line) → map g ((a ++ (b ++ c ++ d)) ++ e) ≡ map g a ++ (map g b ++ (map g c ++ (map g d ++ map g e)))
  four a b c d e =
      map-append g (a ++ (b ++ c ++ d)) e
      ∙ ap (λ l. l ++ map g e) (map-append g a (b ++ c ++ d) ∙ ap (λ l. map g a ++ l) (map-append g (b ++ c) d ∙ ap (λ l. l ++ map g d) (map-append g b c)))
      ∙ append_assoc (map g a) ((map g b ++ map g c) ++ map g d) (map g e)
      ∙ ap (λ l. map g a ++ l) (append_assoc (map g b ++ map g c) (map g d) (map g e) ∙ append_assoc (map g b) (map g c) (map g d ++ map g e))

  pub lines_are : items_of G W ≡ map g (pair_lines domain W.domain) ++ (map g (pair_lines range M.range) ++ (map g (value_lines M) ++ (map g (matrix_lines W.domain M) ++ finish)))
  lines_are =
      ap (λ (m : Option MapTables). map g (pair_lines domain W.domain ++ map_lines W.domain m ++ end ∷ [])) has_map
      ∙ four (pair_lines domain W.domain) (pair_lines range M.range) (value_lines M) (matrix_lines W.domain M) (end ∷ [])

  -- the rows, degree by degree
  module _ (w : ℕ → ℕ) (wide : (k : ℕ) → w k ≡ length (in_degree W.domain.cycles k)) (many : length W.domain.cycles ≡ length M.matrices) where
    matrix_items : (k : ℕ) → map g (cond (length (in_degree W.domain.cycles k) == 0) [] (each (length (get_or M.matrices k [])) (λ r. row k r ∷ [])))
        ≡ row_items k (shown (w k) (get_or M.matrices k []))
    matrix_items k =
        let rs : List (List ℕ) = get_or M.matrices k [] in
        by rs (length (in_degree W.domain.cycles k) == 0)
        (map_each g (length rs) (λ r. row k r ∷ []) ∙ each_of_list (row_item k) rs [])
        ∙ ap (λ (n : ℕ). row_items k (shown n rs)) (sym (wide k))
      where
        by : (rs : List (List ℕ)) (b : Bool) → map g (each (length rs) (λ r. row k r ∷ [])) ≡ row_items k rs
            → map g (cond b [] (each (length rs) (λ r. row k r ∷ []))) ≡ row_items k (cond b [] rs)
        by rs true e = refl
        by rs false e = e

    pub matrices_are : (h : ℕ → ℕ) → map g (matrix_lines W.domain M) ≡ word_item (codes "matrix\n") ∷ matrices_items 0 (all_shown h w 0 M.matrices)
    matrices_are h =
        ap (λ (l : List Item). word_item (codes "matrix\n") ∷ l)
        (map_each g (length W.domain.cycles) (λ k. cond (length (in_degree W.domain.cycles k) == 0) [] (each (length (get_or M.matrices k [])) (λ r. row k r ∷ [])))
        ∙ each_same (length W.domain.cycles)
        (λ k. map g (cond (length (in_degree W.domain.cycles k) == 0) [] (each (length (get_or M.matrices k [])) (λ r. row k r ∷ []))))
        (λ k. row_items (0 + k) (shown (w (0 + k)) (get_or M.matrices k [])))
        (λ k. matrix_items k ∙ ap (λ (n : ℕ). row_items n (shown (w n) (get_or M.matrices k []))) (let q : k ≡ 0 + k = omega arith in q))
        ∙ ap (λ (n : ℕ). each n (λ k. row_items (0 + k) (shown (w (0 + k)) (get_or M.matrices k [])))) many
        ∙ items_by h w 0 M.matrices)

  -- ---- a value has lines of the form

  module _ (is : IsTables p G W) (of : IsMapTables p G (target_of G) W.domain M) where
    abbrev cs : List (ℕ × List (ℕ × ℕ))
    cs = flat_cycles p G W domain is.domain

    abbrev ds : List (ℕ × List (ℕ × ℕ))
    ds = flat_cycles p G W range of.range

    wide_is : (k : ℕ) → size_in cs k ≡ length (in_degree W.domain.cycles k)
    wide_is = flat_size (suc G.top) W.domain.cycles (let e = is.domain.degrees in omega arith)

    high_is : (k : ℕ) → size_in ds k ≡ length (in_degree M.range.cycles k)
    high_is = flat_size (suc G.top) M.range.cycles (let e = of.range.degrees in omega arith)

    rows_many : length M.matrices ≡ suc G.top
    rows_many = of.matrices.degrees ∙ (let q : G.top + 1 ≡ suc G.top = omega arith in q)

    rows_are : AreMatrixRows p (size_in ds) (size_in cs) 0 (all_shown (size_in ds) (size_in cs) 0 M.matrices)
    rows_are = shown_rows (size_in ds) (size_in cs) p 0 M.matrices
        (λ j l. of.matrices.rows j ∙ sym (high_is j) ∙ ap (size_in ds) (let q : j ≡ 0 + j = omega arith in q))
        (λ j r l m. of.matrices.columns j r (let q = ap (size_in ds) (let z : 0 + j ≡ j = omega arith in z) in let e = high_is j in omega arith)
        ∙ sym (wide_is j) ∙ ap (size_in cs) (let q : j ≡ 0 + j = omega arith in q))
        (λ j r s l m n. of.matrices.entries j r s (let q = ap (size_in ds) (let z : 0 + j ≡ j = omega arith in z) in let e = high_is j in omega arith)
        (let q = ap (size_in cs) (let z : 0 + j ≡ j = omega arith in z) in let e = wide_is j in omega arith))

    matrix_form : MatrixPart p G cs ds (map g (matrix_lines W.domain M) ++ finish)
    matrix_form =
        let e : length W.domain.cycles ≡ length M.matrices = (let a = is.domain.degrees in let b = rows_many in omega arith) in
        subst (λ (l : List Item). MatrixPart p G cs ds (l ++ finish)) (sym (matrices_are (size_in cs) wide_is e (size_in ds))) (
          refl,
          subst (λ (n : ℕ). Matrices p (size_in ds) (size_in cs) 0 n End (matrices_items 0 (all_shown (size_in ds) (size_in cs) 0 M.matrices) ++ finish))
              (all_shown_many (size_in ds) (size_in cs) 0 M.matrices ∙ rows_many)
              (matrices_form p (size_in ds) (size_in cs) 0 (all_shown (size_in ds) (size_in cs) 0 M.matrices) End finish rows_are (refl, tt)),
        )

    blocks_are : AreBlocks p (naming p G) (cubes p G) (images p G) 0 M.vertices M.fillings M.images
    blocks_are = are_blocks p (naming p G) (cubes p G) (images p G) 0 M.vertices M.fillings M.images (of.values ∙ sym of.vertices) (of.images ∙ sym of.vertices)
        (λ j l. of.fillings j l ∙ ap (λ (n : ℕ). length (value_in (naming p G) (cubes p G) (images p G) n)) (let q : j ≡ 0 + j = omega arith in q))
        of.filling_terms of.image_terms

    value_form : ValuePart p G cs ds (map g (value_lines M) ++ (map g (matrix_lines W.domain M) ++ finish))
    value_form =
        subst (λ (l : List Item). ValuePart p G cs ds (l ++ (map g (matrix_lines W.domain M) ++ finish)))
        (sym (values_items p G W (of.vertices ∙ sym of.images) (of.values ∙ sym of.images) of.fillings)) (
          refl,
          subst (λ (n : ℕ). Blocks p (naming p G) (cubes p G) (images p G) 0 n (MatrixPart p G cs ds)
              (blocks_items p (naming p G) (cubes p G) (images p G) 0 M.vertices M.fillings M.images ++ (map g (matrix_lines W.domain M) ++ finish))) of.vertices
              (blocks_form p (naming p G) (cubes p G) (images p G) 0 M.vertices M.fillings M.images (MatrixPart p G cs ds) (map g (matrix_lines W.domain M) ++ finish) blocks_are matrix_form),
        )

    pub map_form : MapForm p G (items_of G W)
    map_form = subst (MapForm p G) (sym lines_are)
        (section_form p G W domain is.domain (RangePart p G) (map g (pair_lines range M.range) ++ (map g (value_lines M) ++ (map g (matrix_lines W.domain M) ++ finish)))
        (section_form p G W range of.range (ValuePart p G cs) (map g (value_lines M) ++ (map g (matrix_lines W.domain M) ++ finish)) value_form))
