-- The form of the witnesses of a pair: the lists of lines of the values of version 1 are those of the form.
use Rattle.std.proofs.Common.{◌≡◌, ℕ, refl, sym, ap, ◌∙◌, arith, List, [], ◌∷◌, ◌++◌, length, map, subst, None, Some}
use Rattle.std.proofs.lemmas.List.{map-append, length-map, append-nil}
use Rattle.std.specs.Prelude.{Option, codes}
use Rattle.witness_laws.specs.Lines.{Line, domain, end}
use Rattle.witness_laws.specs.Formats.{texts_of}
use Rattle.witness_laws.specs.Inputs.{Given, Target, relative_cells}
use Rattle.witness_laws.specs.Parts.{relative_number}
use Rattle.witness_laws.specs.Tables.{Tables, PairTables, MapTables, IsTables, IsMapPart, IsPairTables, pair_lines, map_lines, tables_format}
use Rattle.witness_laws.proofs.Runs.{length_singles}
use Rattle.section_reading.specs.Section.{degrees_of, kinds_of}
use Rattle.witness_reading.proofs.Forms.{Item, texts, Then}
use Rattle.witness_reading.proofs.Faults.{IsForm}
use Rattle.witness_reading.proofs.Stops.{Nothing}
use Rattle.witness_reading.proofs.Shapes.{word_item, IsWordItem}
use Rattle.witness_reading.proofs.Runs.{heads, length_heads, run_items}
use Rattle.witness_reading.proofs.Cycling.{cycle_items}
use Rattle.witness_reading.proofs.Flat.{zipped}
use Rattle.witness_reading.proofs.Degrees.{run_back}
use Rattle.witness_reading.proofs.PairValues.{tables_by, tables_fit, flat_is, flat_cocycles_are}
use Rattle.witness_reading.proofs.Items.{item_of_line, items_of, pair_kinds, texts_of_items, tables_form}
use Rattle.witness_reading.proofs.Sections.{Chains, Section}
use Rattle.witness_reading.proofs.Pairs.{head_line, cell_numbers, cell_kinds, pair_items, section_form, flat_cycles, cocycle_chains}

-- the last line, and nothing behind it
abbrev pub End : List Item → Type 0
End = Then (IsWordItem (codes "end\n")) (λ _. Nothing)

-- the lines of a witness of a pair
abbrev pub PairForm : ℕ → Given → List Item → Type 0
PairForm p G = Section p G.top (pair_kinds G domain) (cell_numbers G domain) (cell_kinds G domain) (λ cs. End) (head_line domain)

pub chains_of_zipped : (ds : List ℕ) (xs : List (List (ℕ × ℕ))) → length xs ≡ length ds → map (λ (c : ℕ × List (ℕ × ℕ)). c.1) (zipped ds xs) ≡ xs
chains_of_zipped [] [] e = refl
chains_of_zipped [] (x ∷ xs) e = absurd (omega arith)
chains_of_zipped (d ∷ ds) [] e = absurd (omega arith)
chains_of_zipped (d ∷ ds) (x ∷ xs) e = ap (λ (l : List (List (ℕ × ℕ))). x ∷ l) (chains_of_zipped ds xs (omega arith))

only_end : (ys : List Item) → End ys → ys ≡ word_item (codes "end\n") ∷ []
only_end [] h = absurd h
only_end (y ∷ []) h = ap (λ (z : Item). z ∷ []) h.0
only_end (y ∷ x ∷ ys) h = absurd h.1

module _ (p : ℕ) (G : Given) (none : G.target ≡ None) where
  -- no tables of a map
  no_map : (S : PairTables) (m : Option MapTables) → IsMapPart p G G.target S m → m ≡ None
  no_map S None w = refl
  no_map S (Some M) w = absurd (subst (λ (t : Option Target). IsMapPart p G t S (Some M)) none w)

  pub lines_are : (W : Tables) → W.map ≡ None → items_of G W ≡ map (item_of_line G W) (pair_lines domain W.domain) ++ word_item (codes "end\n") ∷ []
  lines_are W e =
      let f : Line → Item = item_of_line G W in
      let a : List Line = pair_lines domain W.domain in
      ap (λ (m : Option MapTables). map f (a ++ map_lines W.domain m ++ end ∷ [])) e
      ∙ ap (λ (l : List Line). map f (l ++ end ∷ [])) (append-nil a)
      ∙ map-append f a (end ∷ [])

  are : (W : Tables) → IsTables p G W → PairForm p G (items_of G W)
  are W w = subst (PairForm p G) (sym (lines_are W (no_map W.domain W.map w.map)))
      (section_form p G W domain w.domain (λ cs. End) (word_item (codes "end\n") ∷ []) (refl, tt))

  value_of : (y : Item) (ys : List Item) → PairForm p G (y ∷ ys) → (W : Tables) × IsTables p G W × (items_of G W ≡ y ∷ ys)
  value_of y ys h =
      let table : List ℕ = pair_kinds G domain in
      let cs = h.1.cycles in
      let zheads : List (ℕ × ℕ) = heads (degrees_of cs) (kinds_of cs) in
      let hheads : List (ℕ × ℕ) = heads (cell_numbers G domain) (cell_kinds G domain) in
      let b = run_back p (codes "c") None table zheads (Chains p G.top table (cell_numbers G domain) (cell_kinds G domain) (λ ds. End) cs) h.1.rest h.1.allowed in
      let d = run_back p (codes "h") None table hheads End b.rest b.allowed in
      let beside_them : length b.chains ≡ length cs = b.many ∙ length_heads (degrees_of cs) (kinds_of cs) ∙ length-map cs (λ (c : ℕ × List (ℕ × ℕ)). c.0) in
      let cells : length d.chains ≡ length (relative_cells G.x G.a) = d.many ∙ length_heads (cell_numbers G domain) (cell_kinds G domain)
      ∙ length_singles (length (relative_cells G.x G.a)) (relative_number G.x G.a) in
      let S : PairTables = tables_by G.top cs b.chains d.chains in
      let W : Tables = record { domain = S; map = None } in
      let fit : IsPairTables p G.top G.x G.a S = tables_fit p G.top G.x G.a cs b.chains d.chains h.1.are beside_them b.are cells d.are in
      let last : List Item = word_item (codes "end\n") ∷ [] in
      let hs : List Item = run_items p (codes "h") None table hheads d.chains in
      let f : Line → Item = item_of_line G W in
      let zs_are : flat_cycles p G W domain fit ≡ cs = flat_is p G.top G.x G.a cs b.chains d.chains h.1.are beside_them b.are cells d.are in
      let cs_are : cocycle_chains p G W domain fit ≡ b.chains =
      ap (map (λ (c : ℕ × List (ℕ × ℕ)). c.1)) (flat_cocycles_are p G.top G.x G.a cs b.chains d.chains h.1.are beside_them b.are cells d.are)
      ∙ chains_of_zipped (degrees_of cs) b.chains (beside_them ∙ sym (length-map cs (λ (c : ℕ × List (ℕ × ℕ)). c.0))) in
      let laid : map f (pair_lines domain S) ++ last ≡ word_item (head_line domain) ∷ (cycle_items table cs ++ (run_items p (codes "c") None table zheads b.chains ++ (hs ++ last))) =
      pair_items p G W domain fit (λ ds zs. Unit {0}) last tt
      ∙ ap (λ (l : List (ℕ × List (ℕ × ℕ))). word_item (head_line domain) ∷ (cycle_items table l
      ++ (run_items p (codes "c") None table (heads (degrees_of l) (kinds_of l)) (cocycle_chains p G W domain fit) ++ (hs ++ last)))) zs_are
      ∙ ap (λ (l : List (List (ℕ × ℕ))). word_item (head_line domain) ∷ (cycle_items table cs ++ (run_items p (codes "c") None table zheads l ++ (hs ++ last)))) cs_are in
      let tail : ys ≡ cycle_items table cs ++ (run_items p (codes "c") None table zheads b.chains ++ (hs ++ last)) =
      h.1.is ∙ ap (λ (l : List Item). cycle_items table cs ++ l)
      (b.is ∙ ap (λ (l : List Item). run_items p (codes "c") None table zheads b.chains ++ l)
      (d.is ∙ ap (λ (l : List Item). hs ++ l) (only_end d.rest d.allowed))) in (
        W,
        record { domain = fit; map = subst (λ (t : Option Target). IsMapPart p G t S None) (sym none) tt },
        lines_are W refl ∙ laid ∙ sym (ap (λ (z : Item). z ∷ ys) h.0 ∙ ap (λ (l : List Item). word_item (head_line domain) ∷ l) tail),
      )

  value : (zs : List Item) → PairForm p G zs → (W : Tables) × IsTables p G W × (texts_of (tables_format p G) W ≡ texts zs)
  value [] h = absurd h
  value (y ∷ ys) h = let w = value_of y ys h in (w.0, w.1, sym (texts_of_items p G w.0) ∙ ap texts w.2)

  -- version 1 for a pair
  pub pair_is_form : IsForm (tables_format p G) (PairForm p G)
  pair_is_form = tables_form p G (PairForm p G) are value
