-- The lines of the cells of the domain as a form: a block for each cell.
use Rattle.std.proofs.Common.{◌≡◌, ℕ, zero, suc, ◌+◌, ◌<◌, refl, sym, ap, ◌∙◌, arith, List, [], ◌∷◌, ◌++◌, length, Bool, append_assoc, subst, Some}
use Rattle.std.proofs.lemmas.List.{map-append}
use Rattle.std.specs.Prelude.{codes}
use Rattle.elem_cubes.specs.Cells.{Factor, dimension_of}
use Rattle.elem_cubes.specs.Laws.{cell_at}
use Rattle.cube_sets.specs.Closures.{cells_of}
use Rattle.cell_complex.specs.Numbering.{number_of}
use Rattle.cube_maps.specs.CubeMaps.{Naming}
use Rattle.witness_laws.specs.Lines.{chain_line, numbers_line, lines_of}
use Rattle.witness_laws.specs.Parts.{AreTerms, nth}
use Rattle.witness_laws.proofs.Texts.{texts_have_their_lines}
use Rattle.witness_laws.proofs.Runs.{length_singles}
use Rattle.witness_runs.specs.declared.miss.Stop.{Stop}
use Rattle.witness_reading.proofs.Forms.{Item, texts}
use Rattle.witness_reading.proofs.Stops.{AllNames, all_names}
use Rattle.witness_reading.proofs.Shapes.{chain_item, vertex_item}
use Rattle.witness_reading.proofs.Runs.{one_chain, one_numbers, heads, length_heads, IsRunItem, run_items, run_length, run_are, run_lines, run_names}
use Rattle.witness_reading.proofs.Places.{StopsAt}
use Rattle.witness_reading.proofs.Parting.{LeavesBy, by_step, Image, Fillings, CellLines, cell_step, cell_some, cell_leaves}
use Rattle.witness_reading.proofs.Pairs.{run_of}
use Rattle.witness_reading.proofs.Degrees.{run_back}
use Rattle.map_lines.specs.Cells.{value_in, numbers_in, kinds_above, value_kinds, all_kinds, HasCellAt, HasCells, StopsAtCell}

module _ (p : ℕ) (f : List Naming) (domain range : List (List Factor)) where
  -- the lines of the i-th cell, and of all from the i-th on
  abbrev pub Block : ℕ → (List Item → Type 0) → List Item → Type 0
  Block i N =
      CellLines p (suc i) (value_kinds f domain range i) (numbers_in (cells_of range) (value_in f domain range i)) (kinds_above (value_in f domain range i)) (all_kinds (cells_of range))
      (suc (dimension_of (cell_at (cells_of domain) i))) N

  abbrev pub Blocks : ℕ → ℕ → (List Item → Type 0) → List Item → Type 0
  Blocks i zero N = N
  Blocks i (suc n) N = Block i (Blocks (suc i) n N)

  abbrev pub block_heads : ℕ → List (ℕ × ℕ)
  block_heads i = heads (numbers_in (cells_of range) (value_in f domain range i)) (kinds_above (value_in f domain range i))

  -- the lines of what was read of a cell
  abbrev pub filling_items : ℕ → List (List (ℕ × ℕ)) → List Item
  filling_items i cs = run_items p (codes "g") (Some (suc i)) (value_kinds f domain range i) (block_heads i) cs

  abbrev pub image_item : ℕ → List (ℕ × ℕ) → Item
  image_item i m = chain_item (codes "f") (suc i ∷ []) (all_kinds (cells_of range)) (suc (dimension_of (cell_at (cells_of domain) i))) m

  abbrev pub block_items : ℕ → ℕ → List (List (ℕ × ℕ)) → List (ℕ × ℕ) → List Item
  block_items i v cs m = vertex_item (suc i) (value_kinds f domain range i) v ∷ (filling_items i cs ++ image_item i m ∷ [])

  abbrev pub blocks_items : ℕ → List ℕ → List (List (List (ℕ × ℕ))) → List (List (ℕ × ℕ)) → List Item
  blocks_items i [] cs ms = []
  blocks_items i (v ∷ vs) [] ms = []
  blocks_items i (v ∷ vs) (c ∷ cs) [] = []
  blocks_items i (v ∷ vs) (c ∷ cs) (m ∷ ms) = block_items i v c m ++ blocks_items (suc i) vs cs ms

  -- what was read is as it should be
  pub record IsBlock (i : ℕ) (cs : List (List (ℕ × ℕ))) (m : List (ℕ × ℕ)) : Type 0 where
    pub many : length cs ≡ length (value_in f domain range i)
    pub fillings : (j : ℕ) → j < length cs → AreTerms p 0 (nth cs j)
    pub image : AreTerms p 0 m

  abbrev pub AreBlocks : ℕ → List ℕ → List (List (List (ℕ × ℕ))) → List (List (ℕ × ℕ)) → Type 0
  AreBlocks i [] [] [] = Unit {0}
  AreBlocks i (v ∷ vs) (c ∷ cs) (m ∷ ms) = IsBlock i c m × AreBlocks (suc i) vs cs ms
  AreBlocks i vs cs ms = ⊥

  heads_many : (i : ℕ) → length (block_heads i) ≡ length (value_in f domain range i)
  heads_many i =
      length_heads (numbers_in (cells_of range) (value_in f domain range i)) (kinds_above (value_in f domain range i))
      ∙ length_singles (length (value_in f domain range i)) (λ m. suc (number_of (cells_of range) (cell_at (value_in f domain range i) m)))

  -- ---- lists of the form

  pub block_form : (i v : ℕ) (cs : List (List (ℕ × ℕ))) (m : List (ℕ × ℕ)) (N : List Item → Type 0) (ys : List Item) → IsBlock i cs m → N ys → Block i N (block_items i v cs m ++ ys)
  block_form i v cs m N ys b n = (
    record { vertex = v; is = refl },
    subst (Fillings p (suc i) (value_kinds f domain range i) (numbers_in (cells_of range) (value_in f domain range i)) (kinds_above (value_in f domain range i)) (all_kinds (cells_of range)) (suc (dimension_of (cell_at (cells_of domain) i))) N) (sym (append_assoc (filling_items i cs) (image_item i m ∷ []) ys))
        (run_of (IsRunItem p (codes "g") (Some (suc i)) (value_kinds f domain range i)) (block_heads i)
        (Image p (suc i) (value_kinds f domain range i) (numbers_in (cells_of range) (value_in f domain range i)) (kinds_above (value_in f domain range i)) (all_kinds (cells_of range)) (suc (dimension_of (cell_at (cells_of domain) i))) N) (filling_items i cs) (image_item i m ∷ ys)
        (run_are p (codes "g") (Some (suc i)) (value_kinds f domain range i) (block_heads i) cs b.fillings)
        (run_length p (codes "g") (Some (suc i)) (value_kinds f domain range i) (block_heads i) cs (let a = heads_many i in let c = b.many in omega arith)
        ∙ b.many ∙ sym (heads_many i))
        (record { chain = m; are = b.image; is = refl }, n)),
  )

  pub blocks_form : (i : ℕ) (vs : List ℕ) (cs : List (List (List (ℕ × ℕ)))) (ms : List (List (ℕ × ℕ))) (N : List Item → Type 0) (ys : List Item) → AreBlocks i vs cs ms → N ys
      → Blocks i (length vs) N (blocks_items i vs cs ms ++ ys)
  blocks_form i [] [] [] N ys a n = n
  blocks_form i [] [] (m ∷ ms) N ys a n = absurd a
  blocks_form i [] (c ∷ cs) ms N ys a n = absurd a
  blocks_form i (v ∷ vs) [] ms N ys a n = absurd a
  blocks_form i (v ∷ vs) (c ∷ cs) [] N ys a n = absurd a
  blocks_form i (v ∷ vs) (c ∷ cs) (m ∷ ms) N ys a n =
      subst (Block i (Blocks (suc i) (length vs) N)) (sym (append_assoc (block_items i v c m) (blocks_items (suc i) vs cs ms) ys))
      (block_form i v c m (Blocks (suc i) (length vs) N) (blocks_items (suc i) vs cs ms ++ ys) a.0 (blocks_form (suc i) vs cs ms N ys a.1 n))

  pub blocks_some : (i n : ℕ) (N : List Item → Type 0) (ys : List Item) → N ys → (zs : List Item) × Blocks i n N zs
  blocks_some i zero N ys m = (ys, m)
  blocks_some i (suc n) N ys m =
      let w = blocks_some (suc i) n N ys m in
      cell_some p (suc i) (value_kinds f domain range i) (numbers_in (cells_of range) (value_in f domain range i)) (kinds_above (value_in f domain range i)) (all_kinds (cells_of range))
      (suc (dimension_of (cell_at (cells_of domain) i))) (Blocks (suc i) n N) w.0 w.1

  -- ---- what a list of the form has

  pub record HasBlocks (i n : ℕ) (N : List Item → Type 0) (zs : List Item) : Type 0 where
    pub vertices : List ℕ
    pub fillings : List (List (List (ℕ × ℕ)))
    pub images : List (List (ℕ × ℕ))
    pub rest : List Item
    pub many : length vertices ≡ n
    pub are : AreBlocks i vertices fillings images
    pub is : zs ≡ blocks_items i vertices fillings images ++ rest
    pub allowed : N rest

  pub record HasBlock (i : ℕ) (N : List Item → Type 0) (zs : List Item) : Type 0 where
    pub vertex : ℕ
    pub filling : List (List (ℕ × ℕ))
    pub image : List (ℕ × ℕ)
    pub rest : List Item
    pub are : IsBlock i filling image
    pub is : zs ≡ block_items i vertex filling image ++ rest
    pub allowed : N rest

  block_end : (i v : ℕ) (cs : List (List (ℕ × ℕ))) (N : List Item → Type 0) (zs ys : List Item) → length cs ≡ length (block_heads i) → ((j : ℕ) → j < length cs → AreTerms p 0 (nth cs j))
      → zs ≡ vertex_item (suc i) (value_kinds f domain range i) v ∷ (filling_items i cs ++ ys)
      → Image p (suc i) (value_kinds f domain range i) (numbers_in (cells_of range) (value_in f domain range i)) (kinds_above (value_in f domain range i)) (all_kinds (cells_of range))
      (suc (dimension_of (cell_at (cells_of domain) i))) N ys → HasBlock i N zs
  block_end i v cs N zs [] e t s h = absurd h
  block_end i v cs N zs (y ∷ ys) e t s h = record {
    vertex = v;
    filling = cs;
    image = h.0.chain;
    rest = ys;
    are = record { many = e ∙ heads_many i; fillings = t; image = h.0.are };
    is = s ∙ ap (λ (l : List Item). vertex_item (suc i) (value_kinds f domain range i) v ∷ l)
        (ap (λ (z : Item). filling_items i cs ++ (z ∷ ys)) h.0.is ∙ sym (append_assoc (filling_items i cs) (image_item i h.0.chain ∷ []) ys));
    allowed = h.1;
  }

  block_back : (i : ℕ) (N : List Item → Type 0) (zs : List Item) → Block i N zs → HasBlock i N zs
  block_back i N [] h = absurd h
  block_back i N (z ∷ zs) h =
      let w = run_back p (codes "g") (Some (suc i)) (value_kinds f domain range i) (block_heads i)
      (Image p (suc i) (value_kinds f domain range i) (numbers_in (cells_of range) (value_in f domain range i)) (kinds_above (value_in f domain range i)) (all_kinds (cells_of range))
      (suc (dimension_of (cell_at (cells_of domain) i))) N) zs h.1 in
      block_end i h.0.vertex w.chains N (z ∷ zs) w.rest w.many w.are
      (ap (λ (y : Item). y ∷ zs) h.0.is ∙ ap (λ (l : List Item). vertex_item (suc i) (value_kinds f domain range i) h.0.vertex ∷ l) w.is) w.allowed

  pub blocks_back : (i n : ℕ) (N : List Item → Type 0) (zs : List Item) → Blocks i n N zs → HasBlocks i n N zs
  blocks_back i zero N zs h = record { vertices = []; fillings = []; images = []; rest = zs; many = refl; are = tt; is = refl; allowed = h }
  blocks_back i (suc n) N zs h =
      let a = block_back i (Blocks (suc i) n N) zs h in
      let b = blocks_back (suc i) n N a.rest a.allowed in
      record {
        vertices = a.vertex ∷ b.vertices;
        fillings = a.filling ∷ b.fillings;
        images = a.image ∷ b.images;
        rest = b.rest;
        many = ap suc b.many;
        are = (a.are, b.are);
        is = a.is ∙ ap (λ (l : List Item). block_items i a.vertex a.filling a.image ++ l) b.is
            ∙ sym (append_assoc (block_items i a.vertex a.filling a.image) (blocks_items (suc i) b.vertices b.fillings b.images) b.rest);
        allowed = b.allowed;
      }

  -- ---- what was read

  pub record AreRead (i : ℕ) (bytes vs : List ℕ) (cs : List (List (List (ℕ × ℕ)))) (ms : List (List (ℕ × ℕ))) (rest : List ℕ) : Type 0 where
    pub are : AreBlocks i vs cs ms
    pub lines : lines_of bytes ≡ texts (blocks_items i vs cs ms) ++ lines_of rest
    pub names : AllNames (blocks_items i vs cs ms)

  texts_both : (xs ys : List Item) (more : List (List ℕ)) → texts (xs ++ ys) ++ more ≡ texts xs ++ (texts ys ++ more)
  texts_both xs ys more = ap (λ l. l ++ more) (map-append (λ (z : Item). z.text) xs ys) ∙ append_assoc (texts xs) (texts ys) more

  block_lines : (i v : ℕ) (c : List (List (ℕ × ℕ))) (m : List (ℕ × ℕ)) (bytes rest : List ℕ) → HasCellAt p f domain range i bytes v c m rest
      → lines_of bytes ≡ texts (block_items i v c m) ++ lines_of rest
  block_lines i v c m bytes rest h =
      let t : List ℕ = numbers_line (codes "v") (suc i ∷ v ∷ []) in
      let u : List ℕ = chain_line (codes "f") (suc i ∷ []) m in
      ap lines_of h.before.first.split ∙ texts_have_their_lines.first t h.before.behind (one_numbers (codes "v") (suc i ∷ v ∷ []) refl)
      ∙ ap (λ (l : List (List ℕ)). t ∷ l)
      (ap lines_of h.before.second.split
      ∙ run_lines p (codes "g") (Some (suc i)) (value_kinds f domain range i) refl (numbers_in (cells_of range) (value_in f domain range i)) (kinds_above (value_in f domain range i)) c h.last
      ∙ ap (λ (l : List (List ℕ)). texts (filling_items i c) ++ l)
      (ap lines_of h.third.split ∙ texts_have_their_lines.first u rest (one_chain (codes "f") (suc i ∷ []) m refl))
      ∙ sym (texts_both (filling_items i c) (image_item i m ∷ []) (lines_of rest)))

  block_is : (i v : ℕ) (c : List (List (ℕ × ℕ))) (m : List (ℕ × ℕ)) (bytes rest : List ℕ) → HasCellAt p f domain range i bytes v c m rest → IsBlock i c m
  block_is i v c m bytes rest h =
      let n : length (numbers_in (cells_of range) (value_in f domain range i)) ≡ length (value_in f domain range i) =
      length_singles (length (value_in f domain range i)) (λ k. suc (number_of (cells_of range) (cell_at (value_in f domain range i) k))) in
      let e = h.before.second.many in
      record { many = e ∙ n; fillings = λ j l. h.before.second.are j (omega arith); image = h.third.are }

  block_names : (i v : ℕ) (c : List (List (ℕ × ℕ))) (m : List (ℕ × ℕ)) (bytes rest : List ℕ) → HasCellAt p f domain range i bytes v c m rest → AllNames (block_items i v c m)
  block_names i v c m bytes rest h =
      let e = h.before.second.many in (
        (h.before.first.names, tt),
        all_names (filling_items i c) (image_item i m ∷ [])
            (run_names p (codes "g") (Some (suc i)) (value_kinds f domain range i) (numbers_in (cells_of range) (value_in f domain range i)) (kinds_above (value_in f domain range i)) c
            (λ j l. h.before.names j (omega arith)))
            (h.third.names, tt),
      )

  pub blocks_read : (i : ℕ) (bytes vs : List ℕ) (cs : List (List (List (ℕ × ℕ)))) (ms : List (List (ℕ × ℕ))) (rest : List ℕ) → HasCells p f domain range i bytes vs cs ms rest
      → AreRead i bytes vs cs ms rest
  blocks_read i bytes [] [] [] rest h = record { are = tt; lines = ap lines_of h; names = tt }
  blocks_read i bytes [] [] (m ∷ ms) rest h = absurd h
  blocks_read i bytes [] (c ∷ cs) ms rest h = absurd h
  blocks_read i bytes (v ∷ vs) [] ms rest h = absurd h
  blocks_read i bytes (v ∷ vs) (c ∷ cs) [] rest h = absurd h
  blocks_read i bytes (v ∷ vs) (c ∷ cs) (m ∷ ms) rest h =
      let w = blocks_read (suc i) h.0 vs cs ms rest h.2 in
      record {
        are = (block_is i v c m bytes h.0 h.1, w.are);
        lines = block_lines i v c m bytes h.0 h.1 ∙ ap (λ (l : List (List ℕ)). texts (block_items i v c m) ++ l) w.lines
            ∙ sym (texts_both (block_items i v c m) (blocks_items (suc i) vs cs ms) (lines_of rest));
        names = all_names (block_items i v c m) (blocks_items (suc i) vs cs ms) (block_names i v c m bytes h.0 h.1) w.names;
      }

  -- ---- where the bytes leave the form

  block_step : (i : ℕ) (N : List Item → Type 0) (b : Bool) (bytes : List ℕ) (v : ℕ) (c : List (List (ℕ × ℕ))) (m : List (ℕ × ℕ)) (rest : List ℕ) (left : ℕ)
      → HasCellAt p f domain range i bytes v c m rest → StopsAt b N rest left → StopsAt b (Block i N) bytes left
  block_step i N = cell_step p (suc i) (value_kinds f domain range i) (numbers_in (cells_of range) (value_in f domain range i)) (kinds_above (value_in f domain range i)) (all_kinds (cells_of range))
      (suc (dimension_of (cell_at (cells_of domain) i))) N

  pub blocks_step : (i : ℕ) (N : List Item → Type 0) (b : Bool) (bytes vs : List ℕ) (cs : List (List (List (ℕ × ℕ)))) (ms : List (List (ℕ × ℕ))) (rest : List ℕ) (left : ℕ)
      → HasCells p f domain range i bytes vs cs ms rest → StopsAt b N rest left → StopsAt b (Blocks i (length vs) N) bytes left
  blocks_step i N b bytes [] [] [] rest left h s = subst (λ (t : List ℕ). StopsAt b N t left) (sym h) s
  blocks_step i N b bytes [] [] (m ∷ ms) rest left h s = absurd h
  blocks_step i N b bytes [] (c ∷ cs) ms rest left h s = absurd h
  blocks_step i N b bytes (v ∷ vs) [] ms rest left h s = absurd h
  blocks_step i N b bytes (v ∷ vs) (c ∷ cs) [] rest left h s = absurd h
  blocks_step i N b bytes (v ∷ vs) (c ∷ cs) (m ∷ ms) rest left h s =
      block_step i (Blocks (suc i) (length vs) N) b bytes v c m h.0 left h.1 (blocks_step (suc i) N b h.0 vs cs ms rest left h.2 s)

  block_leaves : (i : ℕ) (N : List Item → Type 0) (ys : List Item) → N ys → (bytes : List ℕ) (stop : Stop) → StopsAtCell p f domain range i bytes stop → LeavesBy (Block i N) bytes stop
  block_leaves i N ys m = cell_leaves p (suc i) (value_kinds f domain range i) (numbers_in (cells_of range) (value_in f domain range i)) (kinds_above (value_in f domain range i)) (all_kinds (cells_of range))
      (suc (dimension_of (cell_at (cells_of domain) i))) N ys m

  pub blocks_leave : (i n j : ℕ) (N : List Item → Type 0) (ys : List Item) → N ys → (bytes vs : List ℕ) (cs : List (List (List (ℕ × ℕ)))) (ms : List (List (ℕ × ℕ))) (behind : List ℕ) (stop : Stop)
      → length vs < n → j ≡ i + length vs → HasCells p f domain range i bytes vs cs ms behind → StopsAtCell p f domain range j behind stop → LeavesBy (Blocks i n N) bytes stop
  blocks_leave i zero j N ys a bytes vs cs ms behind stop l e h s = absurd (omega arith)
  blocks_leave i (suc n) j N ys a bytes [] [] [] behind stop l e h s =
      let w = blocks_some (suc i) n N ys a in
      let k : j ≡ i = omega arith in
      block_leaves i (Blocks (suc i) n N) w.0 w.1 bytes stop
      (subst (λ (t : List ℕ). StopsAtCell p f domain range i t stop) (sym h) (subst (λ (m : ℕ). StopsAtCell p f domain range m behind stop) k s))
  blocks_leave i (suc n) j N ys a bytes [] [] (m ∷ ms) behind stop l e h s = absurd h
  blocks_leave i (suc n) j N ys a bytes [] (c ∷ cs) ms behind stop l e h s = absurd h
  blocks_leave i (suc n) j N ys a bytes (v ∷ vs) [] ms behind stop l e h s = absurd h
  blocks_leave i (suc n) j N ys a bytes (v ∷ vs) (c ∷ cs) [] behind stop l e h s = absurd h
  blocks_leave i (suc n) j N ys a bytes (v ∷ vs) (c ∷ cs) (m ∷ ms) behind stop l e h s =
      by_step (Block i (Blocks (suc i) n N)) (Blocks (suc i) n N) bytes h.0 stop (λ b left x. block_step i (Blocks (suc i) n N) b bytes v c m h.0 left h.1 x)
      (blocks_leave (suc i) n j N ys a h.0 vs cs ms behind stop (omega arith) (omega arith) h.2 s)
