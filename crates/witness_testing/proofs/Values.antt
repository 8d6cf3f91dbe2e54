-- The sides of a map that was read, and how many lines its values have.
use Rattle.std.proofs.Common.{◌≡◌, ℕ, zero, suc, ◌+◌, ◌*◌, ◌<◌, ◌≤◌, ◌^◌, refl, sym, ap, ◌∙◌, subst, arith, ⊎_elim, List, [], ◌∷◌, length, get_or, map, Some, true, Bool, ◌&&◌, false}
use Rattle.std.proofs.lemmas.Bool.{cases_lt}
use Rattle.std.proofs.lemmas.List.{length-map, get_or_past}
use Rattle.field_mod.specs.Sums.{total}
use Rattle.std.specs.List.{Contains}
use Rattle.elem_cubes.specs.Cells.{Factor, dimension_of}
use Rattle.elem_cubes.specs.Laws.{cell_at}
use Rattle.elem_cubes.proofs.Members.{In}
use Rattle.cube_sets.specs.Sets.{Members}
use Rattle.cube_sets.specs.Closures.{cells_of, is_cell_of}
use Rattle.cube_maps.specs.CubeMaps.{Mapping}
use Rattle.cell_complex.specs.RelativeComplex.{is_relative}
use Rattle.cell_complex.specs.Sorted.{IsSortedCells}
use Rattle.cell_complex.specs.Numbering.{IsOfPair, IsComplexOf}
use Rattle.acyclic_values.proofs.Cells.{cells_listing}
use Rattle.acyclic_values.specs.Values.{in_value}
use Rattle.map_checks.specs.Faults.{together, HasNoSetFault}
use Rattle.witness_laws.specs.Lines.{Line, vertex, filling, image, domain as domain_side, range as range_side}
use Rattle.witness_laws.specs.Formats.{MeetsFirst}
use Rattle.witness_laws.specs.Inputs.{Given, all_cells, relative_cells}
use Rattle.witness_laws.specs.Parts.{nth, value_at, range_cells, cell_of}
use Rattle.witness_laws.specs.Tables.{Tables, MapTables, IsTables, IsMapTables, value_lines, lines_of_tables, tables_format}
use Rattle.witness_laws.proofs.Reaching.{in_vertices, in_fillings, in_images, in_domain, in_range, in_values}
use Rattle.witness_types.specs.declared.part.PairPart.{PairPart}
use Rattle.witness_sections.specs.Readings.{AreRead, IsNamed, AreNamed}
use Rattle.witness_values.specs.declared.cells.MapSides.{MapSides}
use Rattle.witness_values.specs.Cells.{AreSidesOf, HasWitness, chains_at, cell_line_count}
use Rattle.read_parts.specs.declared.parts.ReadMap.{ReadMap}
use Rattle.read_parts.specs.Values.{read_tables, AreTestable}
use Rattle.witness_testing.specs.Given.{map_given, map_value, map_parts}
use Rattle.witness_testing.specs.Sides.{IsRowWitness}
use Rattle.witness_testing.specs.Mapped.{AreSides}
use Rattle.witness_testing.proofs.Named.{named_of, none_named, first_at, cycles_named, cocycles_named}
use Rattle.witness_testing.proofs.Small.{filter_short, total_bound}

-- all cells of a set are those of a pair
pub whole_pair : (D cells : List (List Factor)) → cells ≡ cells_of D → IsOfPair cells
whole_pair D cells e = subst IsOfPair (sym e) (record {
  x = D;
  a = [];
  listing = record { members = λ q. ((λ h. ((cells_listing D).members q).0 (sym (out q) ∙ h)), (λ w. out q ∙ ((cells_listing D).members q).1 w)); once = (cells_listing D).once };
})
  where
    and_true : (b : Bool) → (b && true) ≡ b
    and_true true = refl
    and_true false = refl

    out : (q : List Factor) → is_relative D [] q ≡ is_cell_of D q
    out q = and_true (is_cell_of D q)

module _ {p : ℕ} (mp : Mapping) (x a y b : Members) (part : PairPart p) (m : ReadMap p) (nf : HasNoSetFault mp.named x.cells a.cells y.cells b.cells)
    (t : AreTestable (map_given mp x a y b) (map_parts part m)) where
  abbrev G : Given
  G = map_given mp x a y b

  abbrev W : Tables
  W = map_value G.top part m

  abbrev M : MapTables
  M = read_tables G.top m

  abbrev ds : List (List Factor)
  ds = all_cells x.cells a.cells

  abbrev rs : List (List Factor)
  rs = all_cells y.cells b.cells

  mt : IsMapTables p G (record { map = mp.named; y = y.cells; b = b.cells }) W.domain M
  mt = t.fits.map

  reach : (l : Line) → In (value_lines M) l → In (lines_of_tables W) l
  reach l h = in_values W M refl l h

  image_named : (i : ℕ) → IsNamed (length rs) (nth M.images i)
  image_named i = ⊎_elim
      (λ l. named_of rs (λ q. dimension_of q ≡ dimension_of (cell_of G i)) (nth M.images i) (first_at (tables_format p G) W t.first (image i) (reach (image i) (in_images M i l))))
      (λ past. subst (IsNamed (length rs)) (sym (get_or_past M.images i [] past)) (none_named (length rs)))
      (cases_lt i (length M.images))

  pub images_named : AreNamed (length rs) m.images.items
  images_named i l = image_named i

  filling_named : (i : ℕ) → i < length ds → AreNamed (length rs) (get_or M.fillings i [])
  filling_named i l j lj = named_of rs (λ q. Contains (value_at G i) q × (dimension_of q ≡ dimension_of (cell_at (value_at G i) j) + 1)) (nth (get_or M.fillings i []) j)
      (first_at (tables_format p G) W t.first (filling i j) (reach (filling i j) (in_fillings M i j (let e = mt.images in omega (arith, e, l)) lj)))

  module _ (s : MapSides p) (set D R : List (List Factor)) (us : List (List (ℕ × ℕ))) (q : AreSides D R us s) (eu : us ≡ m.images.items) (es : set ≡ together x.cells a.cells) (ed : D ≡ ds) (er : R ≡ rs) where
    domain_is : s.domain ≡ ds
    domain_is = q.domain_cells ∙ ed

    range_is : s.range ≡ rs
    range_is = q.all ∙ er

    below : (i : ℕ) → i < length s.domain → i < length ds
    below i l = subst (λ (u : List (List Factor)). i < length u) domain_is l

    pub sides_are : AreSidesOf s mp.named set m G W
    sides_are = record {
      fault = nf;
      naming = refl;
      cubes = es;
      domain = domain_is;
      range = range_is;
      sorted = subst IsSortedCells (sym q.all) q.sorted;
      images = record {
        domain = subst (λ (u : List (List Factor)). IsComplexOf p u s.domain_complex) ed q.domain_complex;
        range = subst (λ (u : List (List Factor)). IsComplexOf p u s.range_complex) er q.range_complex;
        images = subst (λ (u : List (List Factor)). AreRead p u u m.images.items s.images.items) er (subst (λ (v : List (List (ℕ × ℕ))). AreRead p R R v s.images.items) eu q.images);
        count = mt.images;
        named = image_named;
      };
      vertices = refl;
      fillings = refl;
      chains = refl;
      vertex_count = mt.vertices ∙ ap length (sym domain_is);
      filling_count = sym (length-map m.contractions.items (λ v. v.items)) ∙ mt.values ∙ ap length (sym domain_is);
      counts = λ i l. mt.fillings i (let e = mt.values in let k = below i l in omega (arith, e, k));
      filling_cells = λ i l. subst (λ (u : List (List Factor)). AreNamed (length u) (get_or M.fillings i [])) (sym range_is) (filling_named i (below i l));
      named = λ i l. first_at (tables_format p G) W t.first (vertex i) (reach (vertex i) (in_vertices M i (let e = mt.images in let k = below i l in omega (arith, e, k))));
    }

    pub has_witness : HasWitness s mp.named set m
    has_witness = record { given = G; tables = W; are = sides_are }

    pub value_lines_few : length ds ≤ 4096 → length rs ≤ 4096 → cell_line_count m (length s.domain) ≤ 2 ^ 30
    value_lines_few fd fr =
        let a = total_bound (length s.domain) 4098 (λ i. chains_at m i + 2) (λ i l.
        let e = mt.fillings i (let e = mt.values in let k = below i l in omega (arith, e, k)) in
        let f = filter_short (in_value mp.named (together x.cells a.cells) (cell_of G i)) rs in
        omega (arith, e, f, fr)) in
        let d = ap length domain_is in
        omega (arith, a, d, fd)

    pub row_witness : (S K : List (List Factor)) (vs ws : List (List (ℕ × ℕ))) → S ≡ rs → K ≡ relative_cells y.cells b.cells → vs ≡ m.images.items → AreRead p S K vs ws → IsRowWitness s.domain s.range K ws G.top part m G
    row_witness S K vs ws e ek ev read = record {
      domain_cells = domain_is;
      all = range_is;
      relative = ek;
      images = subst (λ (u : List (List Factor)). AreRead p u K m.images.items ws) (e ∙ sym range_is) (subst (λ (v : List (List (ℕ × ℕ))). AreRead p S K v ws) ev read);
      image_count = mt.images ∙ ap length (sym domain_is);
      greatest = refl;
      cycles = subst (λ (u : List (List Factor)). AreNamed (length u) (map (λ z. z.1) part.cycles.items)) (sym domain_is) (cycles_named G W domain_side part t.first (in_domain W) refl t.order t.fits.domain);
      cocycles = subst (λ (u : List (List Factor)). AreNamed (length u) m.range.cocycles.items) (sym range_is) (cocycles_named G W range_side m.range t.first (in_range W M refl) refl t.range_order mt.range);
      sizes = t.range_order.cocycles;
      matrices = mt.matrices;
    }
