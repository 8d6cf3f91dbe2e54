-- A run that was read, or that stops, as lines of a form.
use Rattle.std.proofs.Common.{◌≡◌, ℕ, suc, ◌+◌, ◌<◌, ◌≤◌, refl, sym, ap, ◌∙◌, arith, List, [], ◌∷◌, ◌++◌, length, get_or, drop, true, subst, Option}
use Rattle.std.proofs.lemmas.List.{length-append, length-map, append-nil, drop_all}
use Rattle.witness_laws.specs.Lines.{chain_line, lines_of, no_feed}
use Rattle.witness_laws.proofs.Texts.{texts_have_their_lines}
use Rattle.witness_scanning.specs.Lines.{HasNoChainLine}
use Rattle.witness_runs.specs.Due.{IsOtherChain}
use Rattle.witness_runs.specs.Runs.{head_of, HasRun, NameKinds}
use Rattle.witness_reading.proofs.Forms.{Item, texts, Reads, Then, Run, reads_run, run_some}
use Rattle.witness_reading.proofs.Stops.{AllNames, StopsText, StopsCell, text_behind, cell_behind, text_here, cell_here}
use Rattle.witness_reading.proofs.Shapes.{chain_item, no_chain_here, told_chain}
use Rattle.witness_reading.proofs.Runs.{one_chain, heads, length_heads, drop_heads, IsRunItem, told_run, some_run, run_items, run_length, run_are, run_names, run_lines}

module _ (p : ℕ) (word : List ℕ) (first : Option ℕ) (kinds ns ws bytes : List ℕ) (K : List Item → List Item → Type 0) (o : no_feed word ≡ true) where
  -- the lines that are due
  abbrev pub Due : List Item → Type 0
  Due = Run (IsRunItem p word first kinds) (heads ns ws) K

  module _ (line : ℕ) (cs : List (List (ℕ × ℕ))) (rest : List ℕ) (run : HasRun p word first ns line bytes cs rest) (within : line ≤ length ns) where
    abbrev pub items : List Item
    items = run_items p word first kinds (heads ns ws) cs

    -- what is due behind them
    abbrev pub Left : List Item → Type 0
    Left = Run (IsRunItem p word first kinds) (drop (length items) (heads ns ws)) (λ ys. K (items ++ ys))

    pub run_many : length items ≡ line
    run_many = run_length p word first kinds (heads ns ws) cs (let a = run.many in let b = length_heads ns ws in omega arith) ∙ run.many

    pub run_reads : Reads Due items Left
    run_reads = reads_run (IsRunItem p word first kinds) (heads ns ws) K items (told_run p word first kinds)
        (run_are p word first kinds (heads ns ws) cs (λ i l. run.are i (let a = run.many in omega arith)))

    pub run_all : NameKinds kinds ws cs line → AllNames items
    run_all h = run_names p word first kinds ns ws cs (λ i l. h i (let a = run.many in omega arith))

    pub run_split : lines_of bytes ≡ texts items ++ lines_of rest
    run_split = ap lines_of run.split ∙ run_lines p word first kinds o ns ws cs rest

    -- so many lines stand in front
    pub run_count : length (lines_of bytes) ≡ line + length (lines_of rest)
    run_count = ap length run_split ∙ length-append (texts items) (lines_of rest)
        ∙ ap (λ (n : ℕ). n + length (lines_of rest)) (length-map items (λ (z : Item). z.text) ∙ run_many)

    -- all of them were read
    pub run_whole : line ≡ length ns → Reads Due items (K items)
    run_whole e =
        let d : drop (length items) (heads ns ws) ≡ [] = drop_all (length items) (heads ns ws) (let a = run_many in let b = length_heads ns ws in omega arith) in
        subst (λ (l : List Item). Reads Due items (K l)) (append-nil items)
        (subst (λ (l : List (ℕ × ℕ)). Reads Due items (Run (IsRunItem p word first kinds) l (λ ys. K (items ++ ys)))) d run_reads)

    module _ (short : line < length ns) (fills : (xs : List Item) → (ys : List Item) × K xs ys) (names : NameKinds kinds ws cs line) where
      -- the numbers of the line that is due, and its kind
      abbrev head : ℕ × ℕ
      head = (get_or ns line 0, get_or ws line 0)

      abbrev others : List (ℕ × ℕ)
      others = drop (suc line) (heads ns ws)

      abbrev Behind : Item → List Item → Type 0
      Behind z = Run (IsRunItem p word first kinds) others (λ ys. K (items ++ (z ∷ ys)))

      left_is : drop (length items) (heads ns ws) ≡ head ∷ others
      left_is = ap (λ i. drop i (heads ns ws)) run_many ∙ drop_heads line ns ws short

      count_is : length items + 0 ≡ line
      count_is = let a = run_many in omega arith

      pub run_stops_text : HasNoChainLine word (head_of first (get_or ns line 0)) p rest → StopsText Due (lines_of bytes) line
      run_stops_text h =
          let f = run_some (IsRunItem p word first kinds) (head ∷ others) (λ ys. K (items ++ ys)) (some_run p word first kinds) (λ xs a e. fills (items ++ xs)) in
          let s : StopsText (Then (IsRunItem p word first kinds head) Behind) (lines_of rest) 0 =
          text_here (IsRunItem p word first kinds head) Behind (lines_of rest) f.0 f.1
          (no_chain_here p word (head_of first (get_or ns line 0)) kinds (get_or ws line 0) rest h) in
          let t : StopsText Left (lines_of rest) 0 =
          subst (λ (l : List (ℕ × ℕ)). StopsText (Run (IsRunItem p word first kinds) l (λ ys. K (items ++ ys))) (lines_of rest) 0) (sym left_is) s in
          subst (λ (k : ℕ). StopsText Due (lines_of bytes) k) count_is
          (subst (λ (l : List (List ℕ)). StopsText Due l (length items + 0)) (sym run_split)
          (text_behind Due items Left run_reads (lines_of rest) 0 (run_all names) t))

      pub run_stops_cell : IsOtherChain p word (head_of first (get_or ns line 0)) kinds (get_or ws line 0) rest → StopsCell Due (lines_of bytes) line
      run_stops_cell h =
          let numbers : List ℕ = head_of first (get_or ns line 0) in
          let z : Item = chain_item word numbers kinds (get_or ws line 0) h.terms in
          let f = run_some (IsRunItem p word first kinds) others (λ ys. K (items ++ (z ∷ ys))) (some_run p word first kinds) (λ xs a e. fills (items ++ (z ∷ xs))) in
          let s : StopsCell (Then (IsRunItem p word first kinds head) Behind) (z.text ∷ lines_of h.rest) 0 =
          cell_here (IsRunItem p word first kinds head) Behind z (lines_of h.rest) f.0 (told_chain p word numbers kinds (get_or ws line 0))
          (record { chain = h.terms; are = h.are; is = refl }) f.1 h.other in
          let e : lines_of rest ≡ z.text ∷ lines_of h.rest = ap lines_of h.split ∙ texts_have_their_lines.first (chain_line word numbers h.terms) h.rest (one_chain word numbers h.terms o) in
          let t : StopsCell Left (lines_of rest) 0 =
          subst (λ (l : List (ℕ × ℕ)). StopsCell (Run (IsRunItem p word first kinds) l (λ ys. K (items ++ ys))) (lines_of rest) 0) (sym left_is)
          (subst (λ (l : List (List ℕ)). StopsCell (Then (IsRunItem p word first kinds head) Behind) l 0) (sym e) s) in
          subst (λ (k : ℕ). StopsCell Due (lines_of bytes) k) count_is
          (subst (λ (l : List (List ℕ)). StopsCell Due l (length items + 0)) (sym run_split)
          (cell_behind Due items Left run_reads (lines_of rest) 0 (run_all names) t))
