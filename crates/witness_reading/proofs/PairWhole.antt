-- A witness of a pair that is read whole: it has the value of its parts, and meets the law of the first pass.
use Rattle.std.proofs.Common.{◌≡◌, ℕ, ◌<◌, ◌≤◌, refl, sym, ap, ◌∙◌, arith, List, [], ◌∷◌, ◌++◌, length, map, subst, None}
use Rattle.std.proofs.lemmas.List.{map-append, length-map, get_or-map}
use Rattle.std.specs.Prelude.{Option, codes}
use Rattle.witness_laws.specs.Lines.{domain, end, lines_of}
use Rattle.witness_laws.specs.Formats.{HasValue, MeetsFirst, line_at}
use Rattle.witness_laws.specs.Inputs.{Given, Target}
use Rattle.witness_laws.specs.Parts.{AreTerms, nth}
use Rattle.witness_laws.specs.Inputs.{relative_cells}
use Rattle.witness_laws.specs.Parts.{relative_number}
use Rattle.witness_laws.specs.Tables.{Tables, IsTables, IsMapPart, IsPairTables, lines_of_tables, tables_format}
use Rattle.witness_laws.proofs.Runs.{length_singles}
use Rattle.witness_laws.proofs.Texts.{texts_have_their_lines}
use Rattle.witness_runs.specs.Cycles.{AreCycles}
use Rattle.section_reading.specs.Section.{degrees_of, kinds_of, HasSection}
use Rattle.witness_reading.proofs.Forms.{Item, no_item, texts, Names}
use Rattle.witness_reading.proofs.Stops.{AllNames, all_names, names_at}
use Rattle.witness_reading.proofs.Shapes.{word_item}
use Rattle.witness_reading.proofs.Runs.{heads, run_items, run_lines, run_names}
use Rattle.witness_reading.proofs.Cycling.{cycle_items}
use Rattle.witness_reading.proofs.PairValues.{tables_by, tables_fit, flat_is, flat_cocycles_are}
use Rattle.witness_reading.proofs.Items.{item_of_line, items_of, pair_kinds, texts_of_items, law_from_names}
use Rattle.witness_reading.proofs.Places.{cycles_lines, cycles_names}
use Rattle.witness_reading.proofs.Pairs.{head_line, cell_numbers, cell_kinds, pair_items, cocycle_chains}
use Rattle.witness_reading.proofs.PairForm.{lines_are, chains_of_zipped}

raised : (p low high top : ℕ) (cs : List (ℕ × List (ℕ × ℕ))) → high ≤ top → AreCycles p low high cs → AreCycles p low top cs
raised p low high top [] l a = let b : low ≤ high = a in omega arith
raised p low high top (c ∷ cs) l a = (a.0, a.1, raised p c.0 high top cs l a.2)

joined : (xs ys : List Item) → texts xs ++ texts ys ≡ texts (xs ++ ys)
joined xs ys = sym (map-append (λ (z : Item). z.text) xs ys)

-- a value whose lines name cells as they may
pub tables_meet : (p : ℕ) (G : Given) (W : Tables) → AllNames (items_of G W) → MeetsFirst (tables_format p G) W
tables_meet p G W a i l =
    let b : i < length (items_of G W) = let e = length-map (lines_of_tables W) (item_of_line G W) in omega arith in
    law_from_names G W (line_at (tables_format p G) W i)
    (subst Names (get_or-map (item_of_line G W) (lines_of_tables W) i end no_item l) (names_at (items_of G W) a i b))

module _ (p : ℕ) (G : Given) (none : G.target ≡ None) (bytes : List ℕ) (cs : List (ℕ × List (ℕ × ℕ))) (cocycles homotopy : List (List (ℕ × ℕ))) (rest : List ℕ)
    (h : HasSection p (head_line domain) G.top (pair_kinds G domain) (cell_numbers G domain) (cell_kinds G domain) bytes cs cocycles homotopy rest) (over : rest ≡ codes "end\n") where
  abbrev table : List ℕ
  table = pair_kinds G domain

  abbrev pub value : Tables
  value = record { domain = tables_by G.top cs cocycles homotopy; map = None }

  pub are_cycles : AreCycles p 0 G.top cs
  are_cycles = raised p 0 h.pair.first.low G.top cs h.pair.first.has.below h.pair.first.has.are

  degrees : length (degrees_of cs) ≡ length cs
  degrees = length-map cs (λ (c : ℕ × List (ℕ × ℕ)). c.0)

  beside_them : length cocycles ≡ length cs
  beside_them = h.pair.second.run.many ∙ degrees

  numbers : length (cell_numbers G domain) ≡ length (relative_cells G.x G.a)
  numbers = length_singles (length (relative_cells G.x G.a)) (relative_number G.x G.a)

  cells : length homotopy ≡ length (relative_cells G.x G.a)
  cells = h.pair.third.many ∙ numbers

  cocycle_terms : (i : ℕ) → i < length cocycles → AreTerms p 0 (nth cocycles i)
  cocycle_terms i l = h.pair.second.run.are i (let e = h.pair.second.run.many in omega arith)

  homotopy_terms : (i : ℕ) → i < length homotopy → AreTerms p 0 (nth homotopy i)
  homotopy_terms i l = h.pair.third.are i (let e = h.pair.third.many in omega arith)

  fit : IsPairTables p G.top G.x G.a value.domain
  fit = tables_fit p G.top G.x G.a cs cocycles homotopy are_cycles beside_them cocycle_terms cells homotopy_terms

  pub fits : IsTables p G value
  fits = record { domain = fit; map = subst (λ (t : Option Target). IsMapPart p G t value.domain None) (sym none) tt }

  abbrev cs_items : List Item
  cs_items = run_items p (codes "c") None table (heads (degrees_of cs) (kinds_of cs)) cocycles

  abbrev hs_items : List Item
  hs_items = run_items p (codes "h") None table (heads (cell_numbers G domain) (cell_kinds G domain)) homotopy

  abbrev last : List Item
  last = word_item (codes "end\n") ∷ []

  abbrev all : List Item
  all = word_item (head_line domain) ∷ (cycle_items table cs ++ (cs_items ++ (hs_items ++ last)))

  items_are : items_of G value ≡ all
  items_are =
      lines_are p G none value refl
      ∙ pair_items p G value domain fit (λ ds zs. Unit {0}) last tt
      ∙ ap (λ (l : List (ℕ × List (ℕ × ℕ))). word_item (head_line domain) ∷ (cycle_items table l
      ++ (run_items p (codes "c") None table (heads (degrees_of l) (kinds_of l)) (cocycle_chains p G value domain fit) ++ (hs_items ++ last))))
      (flat_is p G.top G.x G.a cs cocycles homotopy are_cycles beside_them cocycle_terms cells homotopy_terms)
      ∙ ap (λ (l : List (List (ℕ × ℕ))). word_item (head_line domain) ∷ (cycle_items table cs
      ++ (run_items p (codes "c") None table (heads (degrees_of cs) (kinds_of cs)) l ++ (hs_items ++ last))))
      (ap (map (λ (c : ℕ × List (ℕ × ℕ)). c.1)) (flat_cocycles_are p G.top G.x G.a cs cocycles homotopy are_cycles beside_them cocycle_terms cells homotopy_terms)
      ∙ chains_of_zipped (degrees_of cs) cocycles h.pair.second.run.many)

  end_lines : lines_of rest ≡ texts last
  end_lines = ap lines_of over

  homotopy_lines : lines_of h.pair.last ≡ texts (hs_items ++ last)
  homotopy_lines = ap lines_of h.pair.third.split ∙ run_lines p (codes "h") None table refl (cell_numbers G domain) (cell_kinds G domain) homotopy rest
      ∙ ap (λ (l : List (List ℕ)). texts hs_items ++ l) end_lines ∙ joined hs_items last

  cocycle_lines : lines_of h.pair.behind ≡ texts (cs_items ++ (hs_items ++ last))
  cocycle_lines = ap lines_of h.pair.second.run.split ∙ run_lines p (codes "c") None table refl (degrees_of cs) (kinds_of cs) cocycles h.pair.last
      ∙ ap (λ (l : List (List ℕ)). texts cs_items ++ l) homotopy_lines ∙ joined cs_items (hs_items ++ last)

  cycle_lines : lines_of h.behind_head ≡ texts (cycle_items table cs ++ (cs_items ++ (hs_items ++ last)))
  cycle_lines = ap lines_of h.pair.first.has.split ∙ cycles_lines table cs h.pair.behind
      ∙ ap (λ (l : List (List ℕ)). texts (cycle_items table cs) ++ l) cocycle_lines ∙ joined (cycle_items table cs) (cs_items ++ (hs_items ++ last))

  all_lines : lines_of bytes ≡ texts all
  all_lines = ap lines_of h.split
      ∙ texts_have_their_lines.first (codes "pair domain\n") h.behind_head (record { before = codes "pair domain"; none = refl; ends = refl })
      ∙ ap (λ (l : List (List ℕ)). codes "pair domain\n" ∷ l) cycle_lines

  pub whole : HasValue (tables_format p G) (lines_of bytes) value
  whole = record { fits = fits; lines = sym (texts_of_items p G value) ∙ ap texts items_are ∙ sym all_lines }

  all_named : AllNames all
  all_named = (
    tt,
    all_names (cycle_items table cs) (cs_items ++ (hs_items ++ last)) (cycles_names table cs h.pair.first.has.names)
        (all_names cs_items (hs_items ++ last)
        (run_names p (codes "c") None table (degrees_of cs) (kinds_of cs) cocycles (λ i l. h.pair.second.names i (let e = h.pair.second.run.many in omega arith)))
        (all_names hs_items last
        (run_names p (codes "h") None table (cell_numbers G domain) (cell_kinds G domain) homotopy (λ i l. h.pair.names i (let e = h.pair.third.many in omega arith))) (tt, tt))),
  )

  pub meets : MeetsFirst (tables_format p G) value
  meets = tables_meet p G value (subst AllNames (sym items_are) all_named)
