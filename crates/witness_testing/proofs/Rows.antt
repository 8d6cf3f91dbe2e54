-- The lines of matrices, whatever map has them.
use Rattle.std.proofs.Common.{◌≡◌, ℕ, zero, suc, ◌+◌, ◌*◌, ◌<◌, ◌≤◌, refl, sym, ap, ◌∙◌, subst, arith, List, [], ◌∷◌, length, get_or, map, cond, eqb, eq-eqb, ne_eqb}
use Rattle.std.specs.Prelude.{Bool, true, false}
use Rattle.std.proofs.lemmas.List.{length-map, get_or-map}
use Rattle.std.proofs.lemmas.Nat.{mul-add-lt}
use Rattle.elem_cubes.specs.Cells.{Factor}
use Rattle.homology_basis.specs.Bases.{in_degree}
use Rattle.leray_conley.specs.Tables.{Table, entry}
use Rattle.matrix_rows.specs.Rows.{AreRows}
use Rattle.witness_laws.specs.declared.law.WitnessFault.{WitnessFault}
use Rattle.witness_laws.specs.declared.law.WitnessFault.TheVariants.{At, NoMemory}
use Rattle.witness_laws.specs.Lines.{Line, row, each}
use Rattle.witness_laws.specs.Inputs.{Given, all_cells}
use Rattle.witness_laws.specs.Parts.{range_cells, AreMatrices}
use Rattle.witness_laws.specs.Tables.{PairTables, MapTables, Tables, holds}
use Rattle.witness_types.specs.Parts.{beside, degrees_of, pair_tables}
use Rattle.witness_types.specs.Rows.{row_of, rows_of}
use Rattle.witness_types.specs.declared.part.PairPart.{PairPart}
use Rattle.witness_sections.specs.Outcomes.{ArePassed, IsFaultAmong}
use Rattle.witness_sections.specs.Readings.{AreRead}
use Rattle.witness_sections.proofs.Lining.{meet_more, fails_in_each, length_more}
use Rattle.witness_sections.proofs.Termwise.{beside-sizes}
use Rattle.witness_rows.specs.Rows.{AreRowsOf, AreProducts, RowsPassed, IsRowFault, target_cells}
use Rattle.read_parts.specs.declared.parts.ReadMap.{ReadMap}
use Rattle.read_parts.specs.Values.{read_tables}
use Rattle.witness_testing.specs.Given.{map_value}
use Rattle.witness_testing.specs.Sides.{IsRowWitness, HasRowWitness, RowLinesPassed, IsRowLineFault, rows_at, lines_in, all_rows}
use Rattle.witness_testing.proofs.Lists.{length_each, each_at}
use Rattle.witness_testing.proofs.Runs.{passed_none}

-- an entry is below the modulus
pub entry_below : (p : ℕ) (t : Table) → AreRows p t → (r s : ℕ) → r < t.rows → s < t.columns → entry t r s < p
entry_below p t w r s lr ls =
    let q : r * t.columns + s < t.columns * t.rows = mul-add-lt r t.columns s t.rows lr ls in
    let e : t.columns * t.rows ≡ t.rows * t.columns = omega arith in
    w.below (r * t.columns + s) (let c = w.count in omega (arith, c, q, e))

module _ {p : ℕ} (top : ℕ) (m : ReadMap p) (k : ℕ) (t : Table) (is : t ≡ get_or m.rows.items k t) (inside : k < length m.rows.items) where
  pub table_rows : get_or (map rows_of m.rows.items) k [] ≡ rows_of t
  table_rows = get_or-map rows_of m.rows.items k t [] inside ∙ ap rows_of (sym is)

module _ {p : ℕ} (top : ℕ) (part : PairPart p) (m : ReadMap p)
    (w : AreMatrices p top (λ k. length (in_degree (pair_tables top m.range).cycles k)) (λ k. length (in_degree (pair_tables top part).cycles k)) (map rows_of m.rows.items))
    (k : ℕ) (t : Table) (is : t ≡ get_or m.rows.items k t) (inside : k < length m.rows.items) where
  pub table_height : t.rows ≡ length (in_degree (pair_tables top m.range).cycles k)
  table_height = sym (length_each t.rows (row_of t)) ∙ ap length (sym (table_rows top m k t is inside)) ∙ w.rows k

  pub table_width : 0 < t.rows → t.columns ≡ length (in_degree (pair_tables top part).cycles k)
  table_width some =
      sym (length_each t.columns (λ s. entry t 0 s))
      ∙ ap length (sym (each_at t.rows (row_of t) 0 [] some))
      ∙ ap (λ (ms : List (List ℕ)). length (get_or ms 0 [])) (sym (table_rows top m k t is inside))
      ∙ w.columns k 0 (let e = table_height in omega (arith, e, some))

module _ {p : ℕ} (D R K : List (List Factor)) (us : List (List (ℕ × ℕ))) (top : ℕ) (part : PairPart p) (m : ReadMap p) where
  abbrev S : PairTables
  S = pair_tables top part

  abbrev M : MapTables
  M = read_tables top m

  abbrev W : Tables
  W = map_value top part m

  abbrev ds : List ℕ
  ds = degrees_of part.cycles.items

  abbrev zs : List (List (ℕ × ℕ))
  zs = map (λ z. z.1) part.cycles.items

  -- as many matrices as degrees
  pub tables_count : (G : Given) → IsRowWitness D R K us top part m G → length m.rows.items ≡ top + 1
  tables_count G w = sym (length-map m.rows.items rows_of) ∙ w.matrices.degrees

  module _ (k : ℕ) (lk : k ≤ top) where
    cycles_are : in_degree S.cycles k ≡ beside k ds zs
    cycles_are = each_at (suc top) (λ j. beside j ds zs) k [] (omega (arith, lk))

    range_cycles_are : in_degree (pair_tables top m.range).cycles k ≡ beside k (degrees_of m.range.cycles.items) (map (λ z. z.1) m.range.cycles.items)
    range_cycles_are = each_at (suc top) (λ j. beside j (degrees_of m.range.cycles.items) (map (λ z. z.1) m.range.cycles.items)) k [] (omega (arith, lk))

    cocycles_are : in_degree M.range.cocycles k ≡ beside k (degrees_of m.range.cycles.items) m.range.cocycles.items
    cocycles_are = each_at (suc top) (λ j. beside j (degrees_of m.range.cycles.items) m.range.cocycles.items) k [] (omega (arith, lk))

    -- no line without columns or without rows
    pub no_columns : (all : List (List (ℕ × ℕ))) → AreRead p D D (beside k ds zs) all → length all ≡ 0 → (from : ℕ) → RowLinesPassed D R K us top part m (lines_in k) from from
    no_columns all r e from G w = subst (λ (ls : List Line). ArePassed (holds p G W) ls from from) (sym none) (passed_none (holds p G W) from)
      where
        none : rows_at S M k ≡ []
        none = ap (λ b. cond b [] (each (length (get_or M.matrices k [])) (λ i. row k i ∷ []))) (eq-eqb (length (in_degree S.cycles k)) 0 (ap length cycles_are ∙ sym r.count ∙ e))

    module _ (t : Table) (is : t ≡ get_or m.rows.items k t) (G : Given) (w : IsRowWitness D R K us top part m G) where
      inside : k < length m.rows.items
      inside = let e = tables_count G w in omega (arith, e, lk)

      rows_are : get_or M.matrices k [] ≡ rows_of t
      rows_are = table_rows top m k t is inside

      height : t.rows ≡ length (in_degree (pair_tables top m.range).cycles k)
      height = table_height top part m w.matrices k t is inside

      pub cocycles_many : (cs : List (List (ℕ × ℕ))) → AreRead p R K (beside k (degrees_of m.range.cycles.items) m.range.cocycles.items) cs → t.rows ≤ length cs
      cocycles_many cs r =
          let e = height ∙ ap length range_cycles_are in
          let f = beside-sizes k (degrees_of m.range.cycles.items) m.range.cocycles.items (map (λ z. z.1) m.range.cycles.items) (w.sizes ∙ sym (length-map m.range.cycles.items (λ z. z.1))) in
          let c = r.count in
          omega (arith, e, f, c)

      are_rows : (zd rows cs : List (List (ℕ × ℕ))) (n : ℕ) → AreRead p D D (beside k ds zs) zd → n ≡ length K → length rows ≡ n → AreProducts p n us zd rows
          → AreRead p R K (beside k (degrees_of m.range.cycles.items) m.range.cocycles.items) cs → AreRows p t → 0 < t.rows → AreRowsOf p t us zd rows cs k G W
      are_rows zd rows cs n rz en er products rc whole some = record {
        count = er ∙ en ∙ ap length w.relative;
        products = subst (λ j. AreProducts p j us zd rows) (en ∙ ap length w.relative) products;
        images = subst (λ (u : List (List Factor)). AreRead p u (target_cells G) m.images.items us) w.all (subst (λ (u : List (List Factor)). AreRead p R u m.images.items us) w.relative w.images);
        image_count = w.image_count ∙ ap length w.domain_cells;
        cycles = subst (λ (u : List (List Factor)). AreRead p u u (in_degree S.cycles k) zd) w.domain_cells (subst (λ (xs : List (List (ℕ × ℕ))). AreRead p D D xs zd) (sym cycles_are) rz);
        cocycles = subst (λ (u : List (List Factor)). AreRead p u (target_cells G) (in_degree M.range.cocycles k) cs) w.all
            (subst (λ (u : List (List Factor)). AreRead p R u (in_degree M.range.cocycles k) cs) w.relative (subst (λ (xs : List (List (ℕ × ℕ))). AreRead p R K xs cs) (sym cocycles_are) rc));
        table = sym rows_are;
        width = table_width top part m w.matrices k t is inside some;
        below = entry_below p t whole;
      }

      lines_are : 0 < length (in_degree S.cycles k) → rows_at S M k ≡ each (length (get_or M.matrices k [])) (λ r. row k r ∷ [])
      lines_are some = ap (λ b. cond b [] (each (length (get_or M.matrices k [])) (λ i. row k i ∷ []))) (ne_eqb (length (in_degree S.cycles k)) 0 (λ e. omega (arith, e, some)))

    pub no_rows : (t : Table) → t ≡ get_or m.rows.items k t → t.rows ≡ 0 → (from : ℕ) → RowLinesPassed D R K us top part m (lines_in k) from from
    no_rows t is e from G w = subst (λ (ls : List Line). ArePassed (holds p G W) ls from from) (sym none) (passed_none (holds p G W) from)
      where
        every : (b : Bool) (n : ℕ) → n ≡ 0 → cond b [] (each n (λ i. row k i ∷ [])) ≡ []
        every true n f = refl
        every false n f = ap (λ (j : ℕ). each j (λ i. row k i ∷ [])) f

        none : rows_at S M k ≡ []
        none = every (eqb (length (in_degree S.cycles k)) 0) (length (get_or M.matrices k [])) (ap length (rows_are t is G w) ∙ length_each t.rows (row_of t) ∙ e)

    module _ (t : Table) (is : t ≡ get_or m.rows.items k t) (zd rows cs : List (List (ℕ × ℕ))) (n : ℕ) (rz : AreRead p D D (beside k ds zs) zd) (en : n ≡ length K) (er : length rows ≡ n) (products : AreProducts p n us zd rows)
        (rc : AreRead p R K (beside k (degrees_of m.range.cycles.items) m.range.cocycles.items) cs) (whole : AreRows p t) (some : 0 < t.rows) (columns : 0 < length zd) where
      wide : 0 < length (in_degree S.cycles k)
      wide = let e = ap length cycles_are in let c = rz.count in omega (arith, e, c, columns)

      pub rows_passed_of : (from behind : ℕ) → RowsPassed p t rows cs from behind → RowLinesPassed D R K us top part m (lines_in k) from behind
      rows_passed_of from behind h G w = subst (λ (ls : List Line). ArePassed (holds p G W) ls from behind) (sym (lines_are t is G w wide))
          (h us zd k G W (are_rows t is G w zd rows cs n rz en er products rc whole some))

      pub rows_fault_of : (from : ℕ) (fault : WitnessFault) → IsRowFault p t rows cs from fault → IsRowLineFault D R K us top part m (lines_in k) from fault
      rows_fault_of from fault h G w = subst (λ (ls : List Line). IsFaultAmong (holds p G W) ls from fault) (sym (lines_are t is G w wide))
          (h us zd k G W (are_rows t is G w zd rows cs n rz en er products rc whole some))

  -- ---- all degrees

  abbrev pub DegreesPassed : ℕ → ℕ → ℕ → Type 0
  DegreesPassed n from next = (G : Given) → IsRowWitness D R K us top part m G → ArePassed (holds p G W) (each n (rows_at S M)) from next

  pub degrees_none : (from : ℕ) → DegreesPassed 0 from from
  degrees_none from G w = passed_none (holds p G W) from

  pub degrees_more : (n from next behind : ℕ) → DegreesPassed n from next → RowLinesPassed D R K us top part m (lines_in n) next behind → DegreesPassed (n + 1) from behind
  degrees_more n from next behind so_far here G w =
      let a = so_far G w in
      let b = here G w in
      record {
        next = let e = length_more n (rows_at S M) in let f = a.next in let g = b.next in omega (arith, e, f, g);
        meet = meet_more (holds p G W) n (rows_at S M) a.meet b.meet;
      }

  size : length S.cycles ≡ suc top
  size = length_each (suc top) (λ k. beside k ds zs)

  pub degrees_fault : (n from next : ℕ) (fault : WitnessFault) → n ≤ top → DegreesPassed n from next → IsRowLineFault D R K us top part m (lines_in n) next fault → IsRowLineFault D R K us top part m all_rows from fault
  degrees_fault n from next (At line law) l so_far here G w =
      let a = so_far G w in
      let b = here G w in (
        length (each n (rows_at S M)) + b.0,
        (let f = a.next in let g = b.1 in omega (arith, f, g)),
        fails_in_each (holds p G W) n (length S.cycles) b.0 law (rows_at S M) (let e = size in omega (arith, e, l)) a.meet b.2,
      )
  degrees_fault n from next NoMemory l so_far here G w = tt

  pub degrees_passed : (n from next : ℕ) → n ≡ suc top → DegreesPassed n from next → RowLinesPassed D R K us top part m all_rows from next
  degrees_passed n from next e so_far G w = subst (λ (k : ℕ). ArePassed (holds p G W) (each k (rows_at S M)) from next) (e ∙ sym size) (so_far G w)
