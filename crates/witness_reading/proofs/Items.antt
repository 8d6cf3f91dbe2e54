-- The lines of a value of version 1 as items: their texts, and what they are to name.
use Rattle.std.proofs.Common.{◌≡◌, ℕ, suc, ◌+◌, ◌<◌, refl, sym, ap, ◌∙◌, arith, List, [], ◌∷◌, length, get_or, map, Bool, true, subst}
use Rattle.std.proofs.lemmas.List.{length-map, get_or-map}
use Rattle.std.specs.List.{Contains}
use Rattle.elem_cubes.specs.Cells.{Factor, dimension_of}
use Rattle.elem_cubes.specs.Laws.{cell_at}
use Rattle.cell_complex.specs.RelativeComplex.{is_relative}
use Rattle.homology_basis.specs.Bases.{in_degree}
use Rattle.map_checks.specs.Faults.{together}
use Rattle.acyclic_values.specs.Values.{in_value}
use Rattle.witness_laws.specs.Lines.{Side, Line, section, cycle, cocycle, homotopy, values, vertex, filling, image as image_line, matrix, row, end}
use Rattle.witness_laws.specs.Formats.{texts_of, line_at}
use Rattle.witness_laws.specs.Inputs.{Given, target_of, x_of, a_of, all_cells, relative_cells}
use Rattle.witness_laws.specs.Parts.{NameCells, nth, cell_of, value_at, range_cells}
use Rattle.witness_laws.specs.Tables.{Tables, IsTables, pair_of, map_of, lines_of_tables, text_of_line, tables_format, names_cells as law_of_line}
use Rattle.witness_runs.specs.Kinds.{NamesKind}
use Rattle.witness_reading.specs.Kinds.{kinds_where}
use Rattle.witness_reading.proofs.Forms.{Item, no_item, texts, Names}
use Rattle.witness_reading.proofs.Faults.{IsForm}
use Rattle.witness_reading.proofs.Naming.{IsNamed, names_cells, names_kind, name_others, test_of, in_part}

-- ---- the tables of kinds

abbrev pub on_pair : Given → Side → List Factor → Bool
on_pair G side q = is_relative (x_of G side) (a_of G side) q

abbrev pub cells_at : Given → Side → List (List Factor)
cells_at G side = all_cells (x_of G side) (a_of G side)

abbrev pub on_value : Given → ℕ → List Factor → Bool
on_value G i q = in_value (target_of G).map (together G.x G.a) (cell_of G i) q

abbrev pub pair_kinds : Given → Side → List ℕ
pair_kinds G side = kinds_where (on_pair G side) (cells_at G side)

abbrev pub value_kinds : Given → ℕ → List ℕ
value_kinds G i = kinds_where (on_value G i) (range_cells G)

abbrev pub range_kinds : Given → List ℕ
range_kinds G = kinds_where (λ q. true) (range_cells G)

-- ---- items

abbrev pub kinds_of_line : Given → Line → List ℕ
kinds_of_line G (cycle side k i) = pair_kinds G side
kinds_of_line G (cocycle side k i) = pair_kinds G side
kinds_of_line G (homotopy side i) = pair_kinds G side
kinds_of_line G (vertex i) = value_kinds G i
kinds_of_line G (filling i m) = value_kinds G i
kinds_of_line G (image_line i) = range_kinds G
kinds_of_line G line = []

abbrev pub wanted_of_line : Given → Line → ℕ
wanted_of_line G (cycle side k i) = k + 1
wanted_of_line G (cocycle side k i) = k + 1
wanted_of_line G (homotopy side i) = suc (dimension_of (cell_at (relative_cells (x_of G side) (a_of G side)) i) + 1)
wanted_of_line G (vertex i) = 1
wanted_of_line G (filling i m) = suc (dimension_of (cell_at (value_at G i) m) + 1)
wanted_of_line G (image_line i) = suc (dimension_of (cell_of G i))
wanted_of_line G line = 0

abbrev pub terms_of_line : Tables → Line → List (ℕ × ℕ)
terms_of_line W (cycle side k i) = nth (in_degree (pair_of W side).cycles k) i
terms_of_line W (cocycle side k i) = nth (in_degree (pair_of W side).cocycles k) i
terms_of_line W (homotopy side i) = nth (pair_of W side).homotopies i
terms_of_line W (vertex i) = (get_or (map_of W).vertices i 0, 1) ∷ []
terms_of_line W (filling i m) = nth (get_or (map_of W).fillings i []) m
terms_of_line W (image_line i) = nth (map_of W).images i
terms_of_line W line = []

abbrev pub item_of_line : Given → Tables → Line → Item
item_of_line G W line = record { text = text_of_line G W line; kinds = kinds_of_line G line; wanted = wanted_of_line G line; terms = terms_of_line W line }

abbrev pub items_of : Given → Tables → List Item
items_of G W = map (item_of_line G W) (lines_of_tables W)

-- ---- what they name

-- the cells of the value, by the test
in_value_too : (G : Given) (i d : ℕ) (j : ℕ) → j < length (range_cells G) → IsNamed (on_value G i) (range_cells G) d (cell_at (range_cells G) j)
    → Contains (value_at G i) (cell_at (range_cells G) j) × (dimension_of (cell_at (range_cells G) j) ≡ d)
in_value_too G i d j l h = (in_part (on_value G i) (range_cells G) j l h.0, h.1)

by_test : (G : Given) (i d : ℕ) (j : ℕ) → Contains (value_at G i) (cell_at (range_cells G) j) × (dimension_of (cell_at (range_cells G) j) ≡ d)
    → IsNamed (on_value G i) (range_cells G) d (cell_at (range_cells G) j)
by_test G i d j h = (test_of (on_value G i) (range_cells G) (cell_at (range_cells G) j) h.0, h.1)

value_cells_named : (G : Given) (i d : ℕ) (ts : List (ℕ × ℕ)) → NamesKind (value_kinds G i) (suc d) ts
    → NameCells (range_cells G) (λ q. Contains (value_at G i) q × (dimension_of q ≡ d)) ts
value_cells_named G i d ts h =
    name_others (range_cells G) (IsNamed (on_value G i) (range_cells G) d) (λ q. Contains (value_at G i) q × (dimension_of q ≡ d)) (in_value_too G i d) ts
    (names_cells (on_value G i) (range_cells G) d ts h)

named_value_cells : (G : Given) (i d : ℕ) (ts : List (ℕ × ℕ)) → NameCells (range_cells G) (λ q. Contains (value_at G i) q × (dimension_of q ≡ d)) ts
    → NamesKind (value_kinds G i) (suc d) ts
named_value_cells G i d ts h =
    names_kind (on_value G i) (range_cells G) d ts
    (name_others (range_cells G) (λ q. Contains (value_at G i) q × (dimension_of q ≡ d)) (IsNamed (on_value G i) (range_cells G) d) (λ j l w. by_test G i d j w) ts h)

one_more : (k : ℕ) → k + 1 ≡ suc k
one_more k = omega arith

module _ (G : Given) (W : Tables) where
  pub law_from_names : (line : Line) → Names (item_of_line G W line) → law_of_line G W line
  law_from_names (section side) h = tt
  law_from_names (cycle side k i) h =
      let ts : List (ℕ × ℕ) = nth (in_degree (pair_of W side).cycles k) i in
      names_cells (on_pair G side) (cells_at G side) k ts (subst (λ (w : ℕ). NamesKind (pair_kinds G side) w ts) (one_more k) h)
  law_from_names (cocycle side k i) h =
      let ts : List (ℕ × ℕ) = nth (in_degree (pair_of W side).cocycles k) i in
      names_cells (on_pair G side) (cells_at G side) k ts (subst (λ (w : ℕ). NamesKind (pair_kinds G side) w ts) (one_more k) h)
  law_from_names (homotopy side i) h =
      names_cells (on_pair G side) (cells_at G side) (dimension_of (cell_at (relative_cells (x_of G side) (a_of G side)) i) + 1) (nth (pair_of W side).homotopies i) h
  law_from_names values h = tt
  law_from_names (vertex i) h = value_cells_named G i 0 ((get_or (map_of W).vertices i 0, 1) ∷ []) h
  law_from_names (filling i m) h = value_cells_named G i (dimension_of (cell_at (value_at G i) m) + 1) (nth (get_or (map_of W).fillings i []) m) h
  law_from_names (image_line i) h =
      let d : ℕ = dimension_of (cell_of G i) in
      name_others (range_cells G) (IsNamed (λ q. true) (range_cells G) d) (λ q. dimension_of q ≡ d) (λ j l w. w.1) (nth (map_of W).images i)
      (names_cells (λ q. true) (range_cells G) d (nth (map_of W).images i) h)
  law_from_names matrix h = tt
  law_from_names (row k r) h = tt
  law_from_names end h = tt

  pub names_from_law : (line : Line) → law_of_line G W line → Names (item_of_line G W line)
  names_from_law (section side) h = tt
  names_from_law (cycle side k i) h =
      let ts : List (ℕ × ℕ) = nth (in_degree (pair_of W side).cycles k) i in
      subst (λ (w : ℕ). NamesKind (pair_kinds G side) w ts) (sym (one_more k)) (names_kind (on_pair G side) (cells_at G side) k ts h)
  names_from_law (cocycle side k i) h =
      let ts : List (ℕ × ℕ) = nth (in_degree (pair_of W side).cocycles k) i in
      subst (λ (w : ℕ). NamesKind (pair_kinds G side) w ts) (sym (one_more k)) (names_kind (on_pair G side) (cells_at G side) k ts h)
  names_from_law (homotopy side i) h =
      names_kind (on_pair G side) (cells_at G side) (dimension_of (cell_at (relative_cells (x_of G side) (a_of G side)) i) + 1) (nth (pair_of W side).homotopies i) h
  names_from_law values h = tt
  names_from_law (vertex i) h = named_value_cells G i 0 ((get_or (map_of W).vertices i 0, 1) ∷ []) h
  names_from_law (filling i m) h = named_value_cells G i (dimension_of (cell_at (value_at G i) m) + 1) (nth (get_or (map_of W).fillings i []) m) h
  names_from_law (image_line i) h =
      let d : ℕ = dimension_of (cell_of G i) in
      names_kind (λ q. true) (range_cells G) d (nth (map_of W).images i)
      (name_others (range_cells G) (λ q. dimension_of q ≡ d) (IsNamed (λ q. true) (range_cells G) d) (λ j l w. (refl, w)) (nth (map_of W).images i) h)
  names_from_law matrix h = tt
  names_from_law (row k r) h = tt
  names_from_law end h = tt

-- ---- the form of version 1, once its lists are known

texts_map : (f : Line → Item) (g : Line → List ℕ) (ls : List Line) → ((l : Line) → (f l).text ≡ g l) → texts (map f ls) ≡ map g ls
texts_map f g [] h = refl
texts_map f g (l ∷ ls) h = ap (λ (t : List ℕ). t ∷ texts (map f ls)) (h l) ∙ ap (λ (r : List (List ℕ)). g l ∷ r) (texts_map f g ls h)

-- the texts of the items are those of the value
pub texts_of_items : (p : ℕ) (G : Given) (W : Tables) → texts (items_of G W) ≡ texts_of (tables_format p G) W
texts_of_items p G W = texts_map (item_of_line G W) (text_of_line G W) (lines_of_tables W) (λ l. refl)

pub tables_form : (p : ℕ) (G : Given) (L : List Item → Type 0) → ((W : Tables) → IsTables p G W → L (items_of G W))
    → ((zs : List Item) → L zs → (W : Tables) × IsTables p G W × (texts_of (tables_format p G) W ≡ texts zs)) → IsForm (tables_format p G) L
tables_form p G L are value = record {
  items = items_of G;
  are = are;
  texts_are = λ W f. texts_of_items p G W;
  names = λ W i f l h.
      let b : i < length (lines_of_tables W) = let e = length-map (lines_of_tables W) (item_of_line G W) in omega arith in
      law_from_names G W (line_at (tables_format p G) W i) (subst Names (get_or-map (item_of_line G W) (lines_of_tables W) i end no_item b) h);
  named = λ W i f l h.
      let b : i < length (lines_of_tables W) = let e = length-map (lines_of_tables W) (item_of_line G W) in omega arith in
      subst Names (sym (get_or-map (item_of_line G W) (lines_of_tables W) i end no_item b)) (names_from_law G W (line_at (tables_format p G) W i) h);
  value = value;
}
