-- What a value claims all of whose lines meet the laws.
use Rattle.std.proofs.Common.{◌≡◌, ℕ, suc, ◌+◌, ◌<◌, ◌≤◌, refl, sym, ap, ◌∙◌, subst, arith, List, [], ◌∷◌, length, get_or, map}
use Rattle.std.proofs.lemmas.List.{length-map, get_or-map, get_or_default}
use Rattle.field_mod.specs.Modular.{IsField}
use Rattle.elem_cubes.specs.Cells.{Factor}
use Rattle.cube_sets.specs.Sets.{Members}
use Rattle.cube_maps.specs.CubeMaps.{Mapping}
use Rattle.cell_complex.specs.RelativeComplex.{is_relative}
use Rattle.homology_basis.specs.Bases.{in_degree}
use Rattle.leray_conley.specs.Tables.{Table}
use Rattle.witness_laws.specs.Lines.{domain, range}
use Rattle.witness_laws.specs.Formats.{MeetsLaws}
use Rattle.witness_laws.specs.Inputs.{Given, all_cells, relative_cells}
use Rattle.witness_laws.specs.Tables.{Tables, MapTables, PairTables, section_at, tables_format}
use Rattle.witness_laws.proofs.Reaching.{in_domain, in_range}
use Rattle.witness_laws.proofs.Showing.{is_section, domain_section}
use Rattle.witness_types.specs.Answers.{IsClaimWith}
use Rattle.witness_types.specs.Parts.{beside, degrees_of, pair_tables}
use Rattle.witness_types.specs.Rows.{rows_of}
use Rattle.witness_types.specs.declared.part.PairPart.{PairPart}
use Rattle.witness_types.specs.declared.part.Claim.{Claim}
use Rattle.read_parts.specs.declared.parts.ReadMap.{ReadMap}
use Rattle.read_parts.specs.Values.{read_tables, parts_value, AreTestable}
use Rattle.witness_testing.specs.Claims.{AreSmall, AreHigh}
use Rattle.witness_testing.specs.Given.{pair_given, map_given, pair_parts, map_parts, map_value}
use Rattle.witness_testing.specs.Testing.{IsTested, MeetsAll}
use Rattle.witness_testing.proofs.Lists.{length_each}
use Rattle.witness_testing.proofs.Rows.{table_height, table_width}
use Rattle.witness_testing.proofs.Runs.{value_meets}
use Rattle.witness_testing.proofs.Small.{dual_few, filter_short}

no_number : (n : ℕ) → n < 0 → ⊥
no_number n l = omega (arith, l)

pub pair_tested : {p : ℕ} (x a : Members) (part : PairPart p) (claim : Claim p) → AreTestable (pair_given x a) (pair_parts part) → MeetsAll p (pair_given x a) (parts_value (pair_given x a) (pair_parts part))
    → claim.domain.items ≡ map length (pair_tables (pair_given x a).top part).cycles → claim.range.items ≡ [] → claim.matrices.items ≡ []
    → IsTested (pair_given x a) (parts_value (pair_given x a) (pair_parts part)) claim
pair_tested {p} x a part claim t all ed er em = record {
  meets = value_meets p (pair_given x a) (parts_value (pair_given x a) (pair_parts part)) t.first all;
  claimed = record { domain = ed; range = er; count = ap length em; each = λ k t l. absurd (no_number k l) };
}

module _ {p : ℕ} (field : IsField p) (mp : Mapping) (x a y b : Members) (part : PairPart p) (m : ReadMap p) (t : AreTestable (map_given mp x a y b) (map_parts part m)) (all : MeetsAll p (map_given mp x a y b) (map_value (map_given mp x a y b).top part m)) where
  abbrev G : Given
  G = map_given mp x a y b

  abbrev W : Tables
  W = map_value G.top part m

  abbrev M : MapTables
  M = read_tables G.top m

  meets : MeetsLaws (tables_format p G) W
  meets = value_meets p G W t.first all

  kept_few : (u v : List (List Factor)) → length (all_cells u v) ≤ 4096 → length (relative_cells u v) ≤ 4096
  kept_few u v l = let f = filter_short (is_relative u v) (all_cells u v) in omega (arith, f, l)

  domain_few : length (all_cells x.cells a.cells) ≤ 4096 → (k : ℕ) → length (in_degree W.domain.cycles k) ≤ 4096
  domain_few l k =
      let e = dual_few p field (relative_cells x.cells a.cells) (section_at G W domain) k (λ i q. (domain_section p G W t.fits meets).dual k i q) in
      let f = kept_few x.cells a.cells l in
      omega (arith, e, f)

  range_few : length (all_cells y.cells b.cells) ≤ 4096 → (k : ℕ) → length (in_degree M.range.cycles k) ≤ 4096
  range_few l k =
      let e = dual_few p field (relative_cells y.cells b.cells) (section_at G W range) k (λ i q. (is_section p G W meets range (in_range W M refl) t.fits.map.range.cells).dual k i q) in
      let f = kept_few y.cells b.cells l in
      omega (arith, e, f)

  tables_count : length m.rows.items ≡ suc G.top
  tables_count = sym (length-map m.rows.items rows_of) ∙ t.fits.map.matrices.degrees ∙ (let e : G.top + 1 ≡ suc G.top = omega arith in e)

  lengths : (q : PairPart p) → length (map length (pair_tables G.top q).cycles) ≡ suc G.top
  lengths q = length-map (pair_tables G.top q).cycles length ∙ length_each (suc G.top) (λ k. beside k (degrees_of q.cycles.items) (map (λ z. z.1) q.cycles.items))

  width_at : (q : PairPart p) (k : ℕ) → k < suc G.top → get_or (map length (pair_tables G.top q).cycles) k 0 ≡ length (in_degree (pair_tables G.top q).cycles k)
  width_at q k l = get_or-map length (pair_tables G.top q).cycles k [] 0 (let e = length_each (suc G.top) (λ j. beside j (degrees_of q.cycles.items) (map (λ z. z.1) q.cycles.items)) in omega (arith, e, l))

  at_own : (k : ℕ) (u : Table) → k < length m.rows.items → get_or m.rows.items k u ≡ get_or m.rows.items k (get_or m.rows.items k u)
  at_own k u l = get_or_default m.rows.items k u (get_or m.rows.items k u) l

  pub map_high : AreHigh m.rows.items (map length (pair_tables G.top m.range).cycles)
  map_high = record {
    each = λ k u l. table_height G.top part m t.fits.map.matrices k (get_or m.rows.items k u) (at_own k u l) l ∙ sym (width_at m.range k (let e = tables_count in omega (arith, e, l)));
  }

  pub map_small : length (all_cells x.cells a.cells) ≤ 4096 → length (all_cells y.cells b.cells) ≤ 4096 → AreSmall m.rows.items (map length (pair_tables G.top part).cycles)
  map_small fd fr = record {
    count = tables_count ∙ sym (lengths part);
    rows = λ k u l.
        let e = table_height G.top part m t.fits.map.matrices k (get_or m.rows.items k u) (at_own k u l) l in
        let f = range_few fr k in
        omega (arith, e, f);
    few = λ k l. let e = width_at part k (let e = lengths part in omega (arith, e, l)) in let f = domain_few fd k in omega (arith, e, f);
    columns = λ k u l some. table_width G.top part m t.fits.map.matrices k (get_or m.rows.items k u) (at_own k u l) l some ∙ sym (width_at part k (let e = tables_count in omega (arith, e, l)));
  }

  pub map_tested : (claim : Claim p) → IsClaimWith claim (map length (pair_tables G.top part).cycles) (map length (pair_tables G.top m.range).cycles) (map rows_of m.rows.items) → IsTested G W claim
  map_tested claim c = record { meets = meets; claimed = c }
