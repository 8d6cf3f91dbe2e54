-- What a value of version 1 shows that meets the laws.
use Rattle.std.proofs.Common.{◌≡◌, ℕ, ◌+◌, ◌<◌, ◌≤◌, inl, inr, refl, sym, ap, ◌∙◌, arith, ⊎_elim, List, [], length, get_or, subst, true, cond}
use Rattle.std.proofs.lemmas.Bool.{cases_lt, lt-ltb, le-ltb}
use Rattle.std.proofs.lemmas.List.{get_or_past}
use Rattle.std.specs.List.{Contains}
use Rattle.field_mod.specs.Modular.{Same, NonZero}
use Rattle.elem_cubes.specs.Cells.{Factor, dimension_of}
use Rattle.elem_cubes.specs.Laws.{cell_at}
use Rattle.elem_cubes.proofs.Modular.{exact}
use Rattle.elem_cubes.proofs.Members.{In}
use Rattle.cell_complex.specs.RelativeComplex.{is_relative}
use Rattle.cell_complex.specs.Numbering.{number_of}
use Rattle.cell_complex.proofs.Numbering.{number_within, at_number}
use Rattle.homology_basis.specs.Bases.{in_degree}
use Rattle.cell_complex.specs.Acyclic.{IsAcyclic}
use Rattle.acyclic_values.specs.Contractions.{IsContraction}
use Rattle.acyclic_values.specs.CarriedMaps.{IsCarriedMap, IsAcyclicMap}
use Rattle.map_checks.specs.Faults.{together}
use Rattle.acyclic_values.proofs.Contracting.{contractions_are_acyclic}
use Rattle.witness_laws.specs.declared.law.Law.TheVariants as laws
use Rattle.witness_laws.specs.Lines.{Side, domain, range, Line, cycle, cocycle, homotopy, vertex, filling, image, row}
use Rattle.witness_laws.specs.Formats.{MeetsLaws}
use Rattle.witness_laws.specs.Inputs.{Given, Target, target_in, target_of, x_of, a_of, all_cells, relative_cells, IsMapClaim, IsWithoutFault}
use Rattle.witness_laws.specs.Sections.{IsSection, ContractsAt, product_of_image}
use Rattle.witness_laws.specs.Tables.{Tables, PairTables, MapTables, IsTables, IsMapTables, pair_of, pair_lines, value_lines, matrix_lines, section_at, tables_format, lines_of_tables, map_in, map_of, filling_of}
use Rattle.witness_laws.specs.Parts.{NameCells, nth, chain_of, value_at, range_cells, image_of, vertex_of, entry_of, NamesVertex}
use Rattle.witness_laws.proofs.Mapping.{value_list, vertex_inside, vertex_lowest, is_acyclic, is_carried}
use Rattle.witness_laws.specs.Laws.{TablesShowBases, TablesShowMaps}
use Rattle.witness_laws.proofs.Bases.{sections_are_bases, products_with_sections_are_the_matrix}
use Rattle.witness_laws.proofs.Naming.{none_or, is_chain, is_together, relative_listing}
use Rattle.witness_laws.proofs.Reaching.{in_cycles, in_cocycles, in_homotopies, in_vertices, in_fillings, in_images, in_rows, law_at, names_at, in_domain, in_range, in_values, in_matrices, map_part}

-- ---- a side is a section, where its lines stand in the text

module _ (p : ℕ) (G : Given) (W : Tables) (w : MeetsLaws (tables_format p G) W) (side : Side)
    (reach : (l : Line) → In (pair_lines side (pair_of W side)) l → In (lines_of_tables W) l)
    (count : length (pair_of W side).homotopies ≡ length (relative_cells (x_of G side) (a_of G side))) where
  abbrev S : PairTables
  S = pair_of W side

  abbrev x : List (List Factor)
  x = x_of G side

  abbrev a : List (List Factor)
  a = a_of G side

  degree_below : (k i : ℕ) → i < length (in_degree S.cycles k) → k < length S.cycles
  degree_below k i l = ⊎_elim (λ q. q) (λ q. absurd (let e : length (in_degree S.cycles k) ≡ 0 = ap length (get_or_past S.cycles k [] q) in omega arith)) (cases_lt k (length S.cycles))

  place : (s : List Factor) → is_relative x a s ≡ true → number_of (relative_cells x a) s < length S.homotopies
  place s e = let l = number_within (is_relative x a) (relative_cells x a) (relative_listing x a) s e in omega arith

  here : (s : List Factor) → is_relative x a s ≡ true → cell_at (relative_cells x a) (number_of (relative_cells x a) s) ≡ s
  here s e = at_number (is_relative x a) (relative_cells x a) (relative_listing x a) s e

  pub is_section : IsSection p x a (relative_cells x a) (section_at G W side)
  is_section = record {
    listing = relative_listing x a;
    cycle_cells = λ k i l. is_chain p k (all_cells x a) (is_relative x a) (nth (in_degree S.cycles k) i) (names_at (tables_format p G) W w (cycle side k i) (reach (cycle side k i) (in_cycles side S k i (degree_below k i l) l)));
    homotopy_cells = λ s e.
        let i : ℕ = number_of (relative_cells x a) s in
        is_chain p (dimension_of s + 1) (all_cells x a) (is_relative x a) (nth S.homotopies i)
        (subst (λ (q : List Factor). NameCells (all_cells x a) (λ r. (is_relative x a r ≡ true) × (dimension_of r ≡ dimension_of q + 1)) (nth S.homotopies i)) (here s e)
        (names_at (tables_format p G) W w (homotopy side i) (reach (homotopy side i) (in_homotopies side S i (place s e)))));
    closed = λ k i l. law_at (tables_format p G) W w (cycle side k i) laws.Cycle (reach (cycle side k i) (in_cycles side S k i (degree_below k i l) l)) (inl refl);
    dual = λ k i l. law_at (tables_format p G) W w (cocycle side k i) laws.Dual (reach (cocycle side k i) (in_cocycles side S k i (degree_below k i l) l)) (inr (inl refl));
    coclosed = λ k i l. law_at (tables_format p G) W w (cocycle side k i) laws.Cocycle (reach (cocycle side k i) (in_cocycles side S k i (degree_below k i l) l)) (inr (inr (inl refl)));
    contracts = λ s e.
        let i : ℕ = number_of (relative_cells x a) s in
        subst (λ (q : List Factor). ContractsAt p x a (relative_cells x a) (section_at G W side) q) (here s e)
        (law_at (tables_format p G) W w (homotopy side i) laws.Contraction (reach (homotopy side i) (in_homotopies side S i (place s e))) (inr (inr (inr (inl refl)))));
  }

pub domain_section : (p : ℕ) (G : Given) (W : Tables) → IsTables p G W → MeetsLaws (tables_format p G) W → IsSection p G.x G.a (relative_cells G.x G.a) (section_at G W domain)
domain_section p G W t w = is_section p G W w domain (in_domain W) t.domain.cells

pub tables_show_bases : TablesShowBases
tables_show_bases p G W one t w k = sections_are_bases p G.x G.a (relative_cells G.x G.a) (section_at G W domain) one (domain_section p G W t w) k

-- ---- a map

module _ (p : ℕ) (G : Given) (W : Tables) (one : 1 ≤ p) (nf : IsWithoutFault G (target_of G)) (mt : IsMapTables p G (target_of G) W.domain (map_of W)) (w : MeetsLaws (tables_format p G) W)
    (reach : (l : Line) → In (value_lines (map_of W)) l → In (lines_of_tables W) l) where
  abbrev T : Target
  T = target_of G

  abbrev M : MapTables
  M = map_of W

  abbrev ds : List (List Factor)
  ds = all_cells G.x G.a

  abbrev rs : List (List Factor)
  rs = range_cells G

  abbrev f : List Factor → List Factor → ℕ
  f = image_of G M.images

  module _ (i : ℕ) (l : i < length ds) where
    abbrev V : List (List Factor)
    V = value_at G i

    pub in_image_lines : i < length M.images
    in_image_lines = let e = mt.images in omega arith

    vertex_named : NamesVertex G M.vertices i
    vertex_named = names_at (tables_format p G) W w (vertex i) (reach (vertex i) (in_vertices M i in_image_lines))

    in_filling_lines : (m : ℕ) → m < length V → m < length (get_or M.fillings i [])
    in_filling_lines m q = let a = mt.values in let e = mt.fillings i (omega arith) in omega arith

    in_lines : (m : ℕ) → m < length V → In (lines_of_tables W) (filling i m)
    in_lines m q = reach (filling i m) (in_fillings M i m in_image_lines (in_filling_lines m q))

    raised : (m g : ℕ) → m < length V → NonZero p (filling_of G M i m g) → (g < length V) × (dimension_of (cell_at V g) ≡ dimension_of (cell_at V m) + 1)
    raised m g q nz =
        let ts : List (ℕ × ℕ) = nth (get_or M.fillings i []) m in
        ⊎_elim
        (λ k. (
          k,
          ⊎_elim
              (λ z. absurd (nz (exact p (ap (λ b. cond b (chain_of rs ts (cell_at V g)) 0) (lt-ltb g (length V) k) ∙ z))))
              (λ h. h.1)
              (none_or rs (λ r. Contains V r × (dimension_of r ≡ dimension_of (cell_at V m) + 1)) ts (cell_at V g) (names_at (tables_format p G) W w (filling i m) (in_lines m q))),
        ))
        (λ k. absurd (nz (exact p (ap (λ b. cond b (chain_of rs ts (cell_at V g)) 0) (le-ltb g (length V) k)))))
        (cases_lt g (length V))

    contraction : IsContraction p V (vertex_of G M.vertices i) (filling_of G M i)
    contraction = record {
      inside = vertex_inside G nf M.vertices i l vertex_named;
      lowest = vertex_lowest G nf M.vertices i l vertex_named;
      raises = raised;
      identity = λ m g q k. law_at (tables_format p G) W w (filling i m) laws.ValueContraction (in_lines m q) (inr (inr (inr (inr (inl refl))))) g k;
    }

    acyclic_here : IsAcyclic p V
    acyclic_here = contractions_are_acyclic p V (vertex_of G M.vertices i) (filling_of G M i) (value_list G nf i l) contraction

    image_line : In (lines_of_tables W) (image i)
    image_line = reach (image i) (in_images M i in_image_lines)

  acyclic : IsAcyclicMap p T.map (together G.x G.a) (together T.y T.b)
  acyclic = is_acyclic G nf p acyclic_here

  carried : IsCarriedMap p T.map (together G.x G.a) (together T.y T.b) f
  carried = is_carried G nf p M.images
      (λ i l. names_at (tables_format p G) W w (image i) (image_line i l))
      (λ i l. law_at (tables_format p G) W w (image i) laws.Carried (image_line i l) (inr (inr (inr (inr (inr (inl refl)))))))
      (λ i l. law_at (tables_format p G) W w (image i) laws.Augmentation (image_line i l) (inr (inr (inr (inr (inr (inr (inl refl))))))))
      (λ i l. law_at (tables_format p G) W w (image i) laws.Commutes (image_line i l) (inr (inr (inr (inr (inr (inr (inr (inl refl)))))))))

  module _ (sx : IsSection p G.x G.a (relative_cells G.x G.a) (section_at G W domain)) (sy : IsSection p T.y T.b (relative_cells T.y T.b) (section_at G W range))
      (rows : (l : Line) → In (matrix_lines W.domain M) l → In (lines_of_tables W) l) where
    entries : (k r s : ℕ) → r < length (in_degree (pair_of W range).cycles k) → s < length (in_degree W.domain.cycles k)
        → Same p (entry_of M.matrices k r s) (product_of_image ds (relative_cells T.y T.b) (section_at G W domain) (section_at G W range) f k r s)
    entries k r s a b =
        let m : r < length (get_or M.matrices k []) = let e = mt.matrices.rows k in omega arith in
        let d : k < length W.domain.cycles = ⊎_elim (λ q. q) (λ q. absurd (let e : length (in_degree W.domain.cycles k) ≡ 0 = ap length (get_or_past W.domain.cycles k [] q) in omega arith)) (cases_lt k (length W.domain.cycles)) in
        law_at (tables_format p G) W w (row k r) laws.Matrix (rows (row k r) (in_rows M W.domain k r d (λ e. omega arith) m)) (inr (inr (inr (inr (inr (inr (inr (inr (inl refl))))))))) s b

    pub map_claim : IsMapClaim p G.x G.a T (section_at G W domain) (section_at G W range) (entry_of M.matrices)
    map_claim = record {
      domain = sections_are_bases p G.x G.a (relative_cells G.x G.a) (section_at G W domain) one sx;
      range = sections_are_bases p T.y T.b (relative_cells T.y T.b) (section_at G W range) one sy;
      acyclic = acyclic;
      exists = (f, carried);
      matrices = λ k. products_with_sections_are_the_matrix p T.map (together G.x G.a) (together T.y T.b) G.x G.a T.y T.b (relative_cells G.x G.a) (relative_cells T.y T.b) (section_at G W domain) (section_at G W range) f k (entry_of M.matrices k) one
          acyclic (is_together G.x G.a) (is_together T.y T.b) nf.carried sx sy carried (λ r s. entries k r s);
    }

pub tables_show_maps : TablesShowMaps
tables_show_maps p G T W one e nf t w =
    let m = map_part p G T W e t in
    let M : MapTables = m.0 in
    let tg : T ≡ target_of G = sym (ap target_in e) in
    let mp : M ≡ map_of W = sym (ap map_in m.1) in
    let mt : IsMapTables p G (target_of G) W.domain (map_of W) = subst (λ (N : MapTables). IsMapTables p G (target_of G) W.domain N) mp (subst (λ (U : Target). IsMapTables p G U W.domain M) tg m.2) in
    let sx = domain_section p G W t w in
    let sy : IsSection p (target_of G).y (target_of G).b (relative_cells (target_of G).y (target_of G).b) (section_at G W range) =
    is_section p G W w range (λ l h. in_range W M m.1 l (subst (λ (N : MapTables). In (pair_lines range N.range) l) (sym mp) h)) mt.range.cells in
    subst (λ (U : Target). IsMapClaim p G.x G.a U (section_at G W domain) (section_at G W range) (entry_of (map_of W).matrices)) (sym tg)
    (map_claim p G W one (subst (IsWithoutFault G) tg nf) mt w (λ l h. in_values W M m.1 l (subst (λ (N : MapTables). In (value_lines N) l) (sym mp) h)) sx sy
    (λ l h. in_matrices W M m.1 l (subst (λ (N : MapTables). In (matrix_lines W.domain N) l) (sym mp) h)))
