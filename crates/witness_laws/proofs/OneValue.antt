-- A text of version 1 has one value: the runs of its lines are told apart, and each line tells its part.
use Rattle.std.proofs.Common.{◌≡◌, ℕ, suc, ◌+◌, ◌<◌, refl, sym, ap, ◌∙◌, arith, ⊎_elim, List, [], ◌∷◌, ◌++◌, length, get_or, map, drop, Some, None, cond, eqb, ne_eqb, append_assoc, subst}
use Rattle.std.proofs.lemmas.Bool.{cases_eq}
use Rattle.std.proofs.lemmas.List.{map-append, length-map, length-append, ext_get_or}
use Rattle.std.specs.Prelude.{Option, codes}
use Rattle.elem_cubes.specs.Cells.{Factor}
use Rattle.homology_basis.specs.Bases.{in_degree}
use Rattle.witness_laws.specs.Lines.{Side, domain as domain_side, range as range_side, Line, section, cycle, cocycle, homotopy, vertex as vertex_line, filling, image as image_line, row, end, each, chain_line, row_line}
use Rattle.witness_laws.specs.Formats.{HaveOneValue}
use Rattle.witness_laws.specs.Inputs.{Given, Target, x_of, a_of}
use Rattle.witness_laws.specs.Parts.{nth, relative_number, value_number}
use Rattle.witness_laws.specs.Tables.{PairTables, MapTables, Tables, IsPairTables, IsMapTables, IsMapPart, IsTables, pair_of, pair_lines, value_lines, matrix_lines, map_lines, text_of_line, tables_format}
use Rattle.witness_laws.proofs.Telling.{lines_tell_their_parts}
use Rattle.witness_laws.proofs.Runs.{AllOf, NotFirst, all_each, not_each, split_lengths, each_same, map_each, runs_each, lengths_each, length_singles, singles, each_or_none}

-- the first byte of a line
abbrev Begins : ℕ → List ℕ → Type 0
Begins c t = get_or t 0 0 ≡ c

-- ---- runs of lines of one each, and of many each

abbrev lines_once : ℕ → (ℕ → List ℕ) → List (List ℕ)
lines_once n x = each n (λ i. x i ∷ [])

abbrev lines_twice : ℕ → (ℕ → ℕ) → (ℕ → ℕ → List ℕ) → List (List ℕ)
lines_twice n m x = each n (λ k. lines_once (m k) (x k))

map_once : (h : Line → List ℕ) (n : ℕ) (y : ℕ → Line) → map h (each n (λ i. y i ∷ [])) ≡ lines_once n (λ i. h (y i))
map_once h n y = map_each h n (λ i. y i ∷ [])

map_twice : (h : Line → List ℕ) (n : ℕ) (m : ℕ → ℕ) (y : ℕ → ℕ → Line) → map h (each n (λ k. each (m k) (λ i. y k i ∷ []))) ≡ lines_twice n m (λ k i. h (y k i))
map_twice h n m y = map_each h n (λ k. each (m k) (λ i. y k i ∷ [])) ∙ each_same n (λ k. map h (each (m k) (λ i. y k i ∷ []))) (λ k. lines_once (m k) (λ i. h (y k i))) (λ k. map_once h (m k) (y k))

once_same : (m n : ℕ) (x y : ℕ → List ℕ) (u v : List (List ℕ)) → m ≡ n → lines_once m x ++ u ≡ lines_once n y ++ v → ((i : ℕ) → i < m → x i ≡ y i) × (u ≡ v)
once_same m n x y u v s e =
    let w = split_lengths (lines_once m x) (lines_once n y) u v (length_singles m x ∙ s ∙ sym (length_singles n y)) e in
    ((singles m n x y w.0).1, w.1)

twice_same : (n : ℕ) (k l : ℕ → ℕ) (x y : ℕ → ℕ → List ℕ) (u v : List (List ℕ)) → ((i : ℕ) → i < n → k i ≡ l i) → lines_twice n k x ++ u ≡ lines_twice n l y ++ v
    → ((i j : ℕ) → i < n → j < k i → x i j ≡ y i j) × (u ≡ v)
twice_same n k l x y u v s e =
    let w = lengths_each n (λ i. lines_once (k i) (x i)) (λ i. lines_once (l i) (y i)) u v (λ i q. length_singles (k i) (x i) ∙ s i q ∙ sym (length_singles (l i) (y i))) e in
    (λ i j q r. (singles (k i) (l i) (x i) (y i) (w.0 i q)).1 j r, w.1)

three : (h : Line → List ℕ) (a b c : List Line) (u : List (List ℕ)) → map h (a ++ b ++ c) ++ u ≡ map h a ++ (map h b ++ (map h c ++ u))
three h a b c u =
    ap (λ l. l ++ u) (map-append h (a ++ b) c ∙ ap (λ l. l ++ map h c) (map-append h a b))
    ∙ append_assoc (map h a ++ map h b) (map h c) u ∙ append_assoc (map h a) (map h b) (map h c ++ u)

-- ---- a pair

-- the line is that of a cycle of degree k
abbrev IsCycleLine : ℕ → List ℕ → Type 0
IsCycleLine k t = (ts : List (ℕ × ℕ)) × (t ≡ chain_line (codes "z") (k ∷ []) ts)

one_degree : (i j : ℕ) (t : List ℕ) → IsCycleLine i t → IsCycleLine j t → i ≡ j
one_degree i j t a b = ap (λ l. get_or l 0 0) (lines_tell_their_parts.chain (codes "z") (i ∷ []) (j ∷ []) a.0 b.0 (sym a.1 ∙ b.1)).0

first_byte : (k : ℕ) (t : List ℕ) → IsCycleLine k t → Begins 122 t
first_byte k t a = ap (λ l. get_or l 0 0) a.1

not_first : (k : ℕ) (u : List (List ℕ)) → NotFirst (Begins 122) u → NotFirst (IsCycleLine k) u
not_first k [] c = tt
not_first k (t ∷ u) c = λ a. c (first_byte k t a)

abbrev pair_by : List (List (List (ℕ × ℕ))) → List (List (List (ℕ × ℕ))) → List (List (ℕ × ℕ)) → PairTables
pair_by z c h = record { cycles = z; cocycles = c; homotopies = h }

pair_same : (S P : PairTables) → S.cycles ≡ P.cycles → S.cocycles ≡ P.cocycles → S.homotopies ≡ P.homotopies → S ≡ P
pair_same S P z c h =
    ap (λ (x : List (List (List (ℕ × ℕ)))). pair_by x S.cocycles S.homotopies) z
    ∙ ap (λ (x : List (List (List (ℕ × ℕ)))). pair_by P.cycles x S.homotopies) c
    ∙ ap (λ (x : List (List (ℕ × ℕ))). pair_by P.cycles P.cocycles x) h

module _ (p top : ℕ) (x a : List (List Factor)) (G : Given) (side : Side) (W V : Tables)
    (is : IsPairTables p top x a (pair_of W side)) (also : IsPairTables p top x a (pair_of V side)) (u v : List (List ℕ))
    (stops : NotFirst (Begins 122) u) (also_stops : NotFirst (Begins 122) v)
    (e : map (text_of_line G W) (pair_lines side (pair_of W side)) ++ u ≡ map (text_of_line G V) (pair_lines side (pair_of V side)) ++ v) where
  abbrev S : PairTables
  S = pair_of W side

  abbrev P : PairTables
  P = pair_of V side

  abbrev n : ℕ
  n = top + 1

  abbrev size : PairTables → ℕ → ℕ
  size T k = length (in_degree T.cycles k)

  abbrev cycle_text : PairTables → ℕ → ℕ → List ℕ
  cycle_text T k i = chain_line (codes "z") (k ∷ []) (nth (in_degree T.cycles k) i)

  abbrev cocycle_text : PairTables → ℕ → ℕ → List ℕ
  cocycle_text T k i = chain_line (codes "c") (k ∷ []) (nth (in_degree T.cocycles k) i)

  abbrev homotopy_text : PairTables → ℕ → List ℕ
  homotopy_text T i = chain_line (codes "h") (relative_number (x_of G side) (a_of G side) i ∷ []) (nth T.homotopies i)

  -- what stands behind the cycles
  abbrev behind : PairTables → List (List ℕ) → List (List ℕ)
  behind T r = lines_twice n (size T) (cocycle_text T) ++ (lines_once (length T.homotopies) (homotopy_text T) ++ r)

  laid_out : (U : Tables) (r : List (List ℕ)) → length (pair_of U side).cycles ≡ n → map (text_of_line G U) (pair_lines side (pair_of U side)) ++ r
      ≡ text_of_line G U (section side) ∷ (lines_twice n (size (pair_of U side)) (cycle_text (pair_of U side)) ++ behind (pair_of U side) r)
  laid_out U r c =
      let T : PairTables = pair_of U side in
      let h : Line → List ℕ = text_of_line G U in
      let m : ℕ = length T.cycles in
      let zs : List Line = each m (λ k. each (size T k) (λ i. cycle side k i ∷ [])) in
      let cs : List Line = each m (λ k. each (size T k) (λ i. cocycle side k i ∷ [])) in
      let hs : List Line = each (length T.homotopies) (λ i. homotopy side i ∷ []) in
      ap (λ l. h (section side) ∷ l) (three h zs cs hs r
      ∙ ap (λ l. l ++ (map h cs ++ (map h hs ++ r))) (map_twice h m (size T) (λ k i. cycle side k i) ∙ ap (λ (q : ℕ). lines_twice q (size T) (cycle_text T)) c)
      ∙ ap (λ l. lines_twice n (size T) (cycle_text T) ++ (l ++ (map h hs ++ r))) (map_twice h m (size T) (λ k i. cocycle side k i) ∙ ap (λ (q : ℕ). lines_twice q (size T) (cocycle_text T)) c)
      ∙ ap (λ l. lines_twice n (size T) (cycle_text T) ++ (lines_twice n (size T) (cocycle_text T) ++ (l ++ r))) (map_once h (length T.homotopies) (λ i. homotopy side i)))

  from_cycles : lines_twice n (size S) (cycle_text S) ++ behind S u ≡ lines_twice n (size P) (cycle_text P) ++ behind P v
  from_cycles = ap (drop 1) (sym (laid_out W u is.degrees) ∙ e ∙ laid_out V v also.degrees)

  stops_behind : (T : PairTables) (r : List (List ℕ)) → NotFirst (Begins 122) r → NotFirst (Begins 122) (behind T r)
  stops_behind T r s =
      not_each (Begins 122) n (λ k. lines_once (size T k) (cocycle_text T k)) (lines_once (length T.homotopies) (homotopy_text T) ++ r)
      (λ k. all_each (λ t. Begins 122 t → ⊥) (size T k) (λ i. cocycle_text T k i ∷ []) (λ i. (λ (q : 99 ≡ 122). omega arith, tt)))
      (not_each (Begins 122) (length T.homotopies) (λ i. homotopy_text T i ∷ []) r (λ i. (λ (q : 104 ≡ 122). omega arith, tt)) s)

  own : (T : PairTables) (k : ℕ) → AllOf (IsCycleLine k) (lines_once (size T k) (cycle_text T k))
  own T k = all_each (IsCycleLine k) (size T k) (λ i. cycle_text T k i ∷ []) (λ i. ((nth (in_degree T.cycles k) i, refl), tt))

  split_cycles : ((k : ℕ) → k < n → lines_once (size S k) (cycle_text S k) ≡ lines_once (size P k) (cycle_text P k)) × (behind S u ≡ behind P v)
  split_cycles = runs_each n IsCycleLine one_degree (λ k. lines_once (size S k) (cycle_text S k)) (λ k. lines_once (size P k) (cycle_text P k)) (behind S u) (behind P v)
      (own S) (own P) (λ k. not_first k (behind S u) (stops_behind S u stops)) (λ k. not_first k (behind P v) (stops_behind P v also_stops)) from_cycles

  same_size : (k : ℕ) → k < n → size S k ≡ size P k
  same_size k l = (singles (size S k) (size P k) (cycle_text S k) (cycle_text P k) (split_cycles.0 k l)).0

  same_cycles : S.cycles ≡ P.cycles
  same_cycles = ext_get_or [] S.cycles P.cycles (is.degrees ∙ sym also.degrees) (λ k l.
      let q : k < n = let d = is.degrees in omega arith in
      ext_get_or [] (in_degree S.cycles k) (in_degree P.cycles k) (same_size k q) (λ i r.
      (lines_tell_their_parts.chain (codes "z") (k ∷ []) (k ∷ []) (nth (in_degree S.cycles k) i) (nth (in_degree P.cycles k) i)
      ((singles (size S k) (size P k) (cycle_text S k) (cycle_text P k) (split_cycles.0 k q)).1 i r)).1))

  split_cocycles : ((k i : ℕ) → k < n → i < size S k → cocycle_text S k i ≡ cocycle_text P k i)
      × (lines_once (length S.homotopies) (homotopy_text S) ++ u ≡ lines_once (length P.homotopies) (homotopy_text P) ++ v)
  split_cocycles = twice_same n (size S) (size P) (cocycle_text S) (cocycle_text P) (lines_once (length S.homotopies) (homotopy_text S) ++ u)
      (lines_once (length P.homotopies) (homotopy_text P) ++ v) same_size split_cycles.1

  same_cocycles : S.cocycles ≡ P.cocycles
  same_cocycles = ext_get_or [] S.cocycles P.cocycles (is.cocycle_degrees ∙ sym also.cocycle_degrees) (λ k l.
      let q : k < n = let d = is.cocycle_degrees in omega arith in
      ext_get_or [] (in_degree S.cocycles k) (in_degree P.cocycles k) (is.sizes k ∙ same_size k q ∙ sym (also.sizes k)) (λ i r.
      (lines_tell_their_parts.chain (codes "c") (k ∷ []) (k ∷ []) (nth (in_degree S.cocycles k) i) (nth (in_degree P.cocycles k) i)
      (split_cocycles.0 k i q (let d = is.sizes k in omega arith))).1))

  split_homotopies : ((i : ℕ) → i < length S.homotopies → homotopy_text S i ≡ homotopy_text P i) × (u ≡ v)
  split_homotopies = once_same (length S.homotopies) (length P.homotopies) (homotopy_text S) (homotopy_text P) u v (is.cells ∙ sym also.cells) split_cocycles.1

  same_homotopies : S.homotopies ≡ P.homotopies
  same_homotopies = ext_get_or [] S.homotopies P.homotopies (is.cells ∙ sym also.cells) (λ i r.
      let m : ℕ = relative_number (x_of G side) (a_of G side) i in
      (lines_tell_their_parts.chain (codes "h") (m ∷ []) (m ∷ []) (nth S.homotopies i) (nth P.homotopies i) (split_homotopies.0 i r)).1)

  pub one_pair : (pair_of W side ≡ pair_of V side) × (u ≡ v)
  one_pair = (pair_same S P same_cycles same_cocycles same_homotopies, split_homotopies.1)

-- ---- a map

abbrev map_by : PairTables → List ℕ → List (List (List (ℕ × ℕ))) → List (List (ℕ × ℕ)) → List (List (List ℕ)) → MapTables
map_by r v f i m = record { range = r; vertices = v; fillings = f; images = i; matrices = m }

map_same : (M N : MapTables) → M.range ≡ N.range → M.vertices ≡ N.vertices → M.fillings ≡ N.fillings → M.images ≡ N.images → M.matrices ≡ N.matrices → M ≡ N
map_same M N r v f i m =
    ap (λ (x : PairTables). map_by x M.vertices M.fillings M.images M.matrices) r
    ∙ ap (λ (x : List ℕ). map_by N.range x M.fillings M.images M.matrices) v
    ∙ ap (λ (x : List (List (List (ℕ × ℕ)))). map_by N.range N.vertices x M.images M.matrices) f
    ∙ ap (λ (x : List (List (ℕ × ℕ))). map_by N.range N.vertices N.fillings x M.matrices) i
    ∙ ap (λ (x : List (List (List ℕ))). map_by N.range N.vertices N.fillings N.images x) m

abbrev tables_by : PairTables → Option MapTables → Tables
tables_by S m = record { domain = S; map = m }

module _ (p : ℕ) (G : Given) (T : Target) (S : PairTables) (M N : MapTables) (is : IsMapTables p G T S M) (also : IsMapTables p G T S N) where
  abbrev text : MapTables → Line → List ℕ
  text L = text_of_line G (tables_by S (Some L))

  abbrev fillings_at : MapTables → ℕ → List (List (ℕ × ℕ))
  fillings_at L i = get_or L.fillings i []

  -- the texts of the lines of a cell, and of the rows of a degree
  abbrev cell_lines : MapTables → ℕ → List Line
  cell_lines L i = vertex_line i ∷ each (length (fillings_at L i)) (λ m. filling i m ∷ []) ++ image_line i ∷ []

  abbrev cell_texts : MapTables → ℕ → List (List ℕ)
  cell_texts L i = map (text L) (cell_lines L i)

  abbrev matrix_at : MapTables → ℕ → List (List ℕ)
  matrix_at L k = get_or L.matrices k []

  abbrev width : ℕ → ℕ
  width k = length (in_degree S.cycles k)

  abbrev height : MapTables → ℕ → ℕ
  height L k = cond (eqb (width k) 0) 0 (length (matrix_at L k))

  abbrev row_text : MapTables → ℕ → ℕ → List ℕ
  row_text L k r = row_line k (get_or (matrix_at L k) r [])

  abbrev row_texts : MapTables → List (List ℕ)
  row_texts L = lines_twice (length S.cycles) (height L) (row_text L)

  matrix_texts : (L : MapTables) → map (text L) (matrix_lines S L) ≡ codes "matrix\n" ∷ row_texts L
  matrix_texts L =
      let rows : ℕ → List Line = λ k. each (length (matrix_at L k)) (λ r. row k r ∷ []) in
      ap (λ l. codes "matrix\n" ∷ l) (map_each (text L) (length S.cycles) (λ k. cond (eqb (width k) 0) [] (rows k))
      ∙ each_same (length S.cycles) (λ k. map (text L) (cond (eqb (width k) 0) [] (rows k))) (λ k. lines_once (height L k) (row_text L k))
      (λ k. ap (map (text L)) (each_or_none (eqb (width k) 0) (length (matrix_at L k)) (λ r. row k r ∷ [])) ∙ map_once (text L) (height L k) (λ r. row k r)))

  value_texts : (L : MapTables) (u : List (List ℕ)) → map (text L) (value_lines L) ++ u ≡ codes "values\n" ∷ (each (length L.images) (cell_texts L) ++ u)
  value_texts L u = ap (λ l. codes "values\n" ∷ (l ++ u)) (map_each (text L) (length L.images) (cell_lines L))

  module _ (same_range : M.range ≡ N.range) (u v : List (List ℕ))
      (e : map (text M) (value_lines M ++ matrix_lines S M) ++ u ≡ map (text N) (value_lines N ++ matrix_lines S N) ++ v) where
    apart : (L : MapTables) (r : List (List ℕ)) → map (text L) (value_lines L ++ matrix_lines S L) ++ r
        ≡ codes "values\n" ∷ (each (length L.images) (cell_texts L) ++ (codes "matrix\n" ∷ (row_texts L ++ r)))
    apart L r =
        ap (λ l. l ++ r) (map-append (text L) (value_lines L) (matrix_lines S L))
        ∙ append_assoc (map (text L) (value_lines L)) (map (text L) (matrix_lines S L)) r
        ∙ ap (λ l. map (text L) (value_lines L) ++ (l ++ r)) (matrix_texts L) ∙ value_texts L (codes "matrix\n" ∷ (row_texts L ++ r))

    same_images : length M.images ≡ length N.images
    same_images = is.images ∙ sym also.images

    from_values : each (length M.images) (cell_texts M) ++ (codes "matrix\n" ∷ (row_texts M ++ u)) ≡ each (length M.images) (cell_texts N) ++ (codes "matrix\n" ∷ (row_texts N ++ v))
    from_values = ap (drop 1) (sym (apart M u) ∙ e ∙ apart N v) ∙ ap (λ (q : ℕ). each q (cell_texts N) ++ (codes "matrix\n" ∷ (row_texts N ++ v))) (sym same_images)

    same_count : (i : ℕ) → i < length M.images → length (fillings_at M i) ≡ length (fillings_at N i)
    same_count i l =
        is.fillings i (let a = is.images in let b = is.values in omega arith)
        ∙ sym (also.fillings i (let a = is.images in let b = also.values in omega arith))

    many : (L : MapTables) (i : ℕ) → length (cell_texts L i) ≡ length (fillings_at L i) + 2
    many L i =
        let b : List Line = each (length (fillings_at L i)) (λ m. filling i m ∷ []) in
        let c = length-append b (image_line i ∷ []) in
        let d = length_singles (length (fillings_at L i)) (λ m. filling i m) in
        let e : length (cell_lines L i) ≡ length (fillings_at L i) + 2 = omega arith in
        length-map (cell_lines L i) (text L) ∙ e

    split_values : ((i : ℕ) → i < length M.images → cell_texts M i ≡ cell_texts N i) × ((codes "matrix\n" ∷ (row_texts M ++ u)) ≡ (codes "matrix\n" ∷ (row_texts N ++ v)))
    split_values = lengths_each (length M.images) (cell_texts M) (cell_texts N) (codes "matrix\n" ∷ (row_texts M ++ u)) (codes "matrix\n" ∷ (row_texts N ++ v))
        (λ i l. many M i ∙ ap (λ (q : ℕ). q + 2) (same_count i l) ∙ sym (many N i)) from_values

    same_vertices : M.vertices ≡ N.vertices
    same_vertices = ext_get_or 0 M.vertices N.vertices (is.vertices ∙ sym also.vertices) (λ i l.
        let q : i < length M.images = let a = is.vertices in let b = is.images in omega arith in
        let c = ap (λ t. get_or t 0 []) (split_values.0 i q) in
        ap (λ t. get_or t 1 0) (lines_tell_their_parts.numbers (codes "v") (suc i ∷ get_or M.vertices i 0 ∷ []) (suc i ∷ get_or N.vertices i 0 ∷ []) c))

    abbrev filling_text : MapTables → ℕ → ℕ → List ℕ
    filling_text L i m = chain_line (codes "g") (suc i ∷ value_number G i m ∷ []) (nth (fillings_at L i) m)

    abbrev image_text : MapTables → ℕ → List ℕ
    image_text L i = chain_line (codes "f") (suc i ∷ []) (nth L.images i)

    cell_parts : (L : MapTables) (i : ℕ) → drop 1 (cell_texts L i) ≡ lines_once (length (fillings_at L i)) (filling_text L i) ++ (image_text L i ∷ [])
    cell_parts L i =
        let b : List Line = each (length (fillings_at L i)) (λ m. filling i m ∷ []) in
        map-append (text L) b (image_line i ∷ []) ∙ ap (λ l. l ++ (image_text L i ∷ [])) (map_once (text L) (length (fillings_at L i)) (λ m. filling i m))

    split_cell : (i : ℕ) → i < length M.images
        → ((m : ℕ) → m < length (fillings_at M i) → filling_text M i m ≡ filling_text N i m) × ((image_text M i ∷ []) ≡ (image_text N i ∷ []))
    split_cell i l = once_same (length (fillings_at M i)) (length (fillings_at N i)) (filling_text M i) (filling_text N i) (image_text M i ∷ []) (image_text N i ∷ [])
        (same_count i l) (sym (cell_parts M i) ∙ ap (drop 1) (split_values.0 i l) ∙ cell_parts N i)

    same_fillings : M.fillings ≡ N.fillings
    same_fillings = ext_get_or [] M.fillings N.fillings (is.values ∙ sym also.values) (λ i l.
        let q : i < length M.images = let a = is.values in let b = is.images in omega arith in
        ext_get_or [] (fillings_at M i) (fillings_at N i) (same_count i q) (λ m r.
        let ns : List ℕ = suc i ∷ value_number G i m ∷ [] in
        (lines_tell_their_parts.chain (codes "g") ns ns (nth (fillings_at M i) m) (nth (fillings_at N i) m) ((split_cell i q).0 m r)).1))

    same_image_chains : M.images ≡ N.images
    same_image_chains = ext_get_or [] M.images N.images same_images (λ i l.
        (lines_tell_their_parts.chain (codes "f") (suc i ∷ []) (suc i ∷ []) (nth M.images i) (nth N.images i) (ap (λ t. get_or t 0 []) (split_cell i l).1)).1)

    same_rows : (k : ℕ) → length (matrix_at M k) ≡ length (matrix_at N k)
    same_rows k = is.matrices.rows k ∙ ap (λ (r : PairTables). length (in_degree r.cycles k)) same_range ∙ sym (also.matrices.rows k)

    split_rows : ((k r : ℕ) → k < length S.cycles → r < height M k → row_text M k r ≡ row_text N k r) × (u ≡ v)
    split_rows = twice_same (length S.cycles) (height M) (height N) (row_text M) (row_text N) u v (λ k l. ap (λ (q : ℕ). cond (eqb (width k) 0) 0 q) (same_rows k))
        (ap (drop 1) split_values.1)

    same_row : (k r : ℕ) → k < length S.cycles → r < length (matrix_at M k) → get_or (matrix_at M k) r [] ≡ get_or (matrix_at N k) r []
    same_row k r l q =
        let i : length (get_or (matrix_at M k) r []) ≡ width k = is.matrices.columns k r (let a = is.matrices.rows k in omega arith) in
        let j : length (get_or (matrix_at N k) r []) ≡ width k = also.matrices.columns k r (let a = also.matrices.rows k in let b = same_rows k in omega arith) in
        ⊎_elim
        (λ z. ext_get_or 0 (get_or (matrix_at M k) r []) (get_or (matrix_at N k) r []) (i ∙ sym j) (λ s m. absurd (omega arith)))
        (λ f.
        let h : length (matrix_at M k) ≡ height M k = sym (ap (λ b. cond b 0 (length (matrix_at M k))) (ne_eqb (width k) 0 f)) in
        (lines_tell_their_parts.row k k (get_or (matrix_at M k) r []) (get_or (matrix_at N k) r []) (split_rows.0 k r l (omega arith))).1)
        (cases_eq (width k) 0)

    same_matrices : length S.cycles ≡ G.top + 1 → M.matrices ≡ N.matrices
    same_matrices d = ext_get_or [] M.matrices N.matrices (is.matrices.degrees ∙ sym also.matrices.degrees) (λ k l.
        ext_get_or [] (matrix_at M k) (matrix_at N k) (same_rows k) (λ r q. same_row k r (let a = is.matrices.degrees in omega arith) q))

    pub one_map : length S.cycles ≡ G.top + 1 → M ≡ N
    one_map d = map_same M N same_range same_vertices same_fillings same_image_chains (same_matrices d)

-- ---- a value

abbrev with_end : List (List ℕ) → List (List ℕ)
with_end ts = ts ++ (codes "end\n" ∷ [])

-- behind the lines of the domain
abbrev behind_domain : Given → PairTables → Option MapTables → List (List ℕ)
behind_domain G S m = with_end (map (text_of_line G (tables_by S m)) (map_lines S m))

begins_otherwise : (G : Given) (S : PairTables) (m : Option MapTables) → NotFirst (Begins 122) (behind_domain G S m)
begins_otherwise G S None = λ (q : 101 ≡ 122). omega arith
begins_otherwise G S (Some M) = λ (q : 112 ≡ 122). omega arith

all_lines : (G : Given) (S : PairTables) (m : Option MapTables) → map (text_of_line G (tables_by S m)) (pair_lines domain_side S ++ map_lines S m ++ end ∷ [])
    ≡ map (text_of_line G (tables_by S m)) (pair_lines domain_side S) ++ behind_domain G S m
all_lines G S m =
    let h : Line → List ℕ = text_of_line G (tables_by S m) in
    let a : List Line = pair_lines domain_side S in
    let b : List Line = map_lines S m in
    map-append h (a ++ b) (end ∷ []) ∙ ap with_end (map-append h a b) ∙ append_assoc (map h a) (map h b) (codes "end\n" ∷ [])

one_map_part : (p : ℕ) (G : Given) (t : Option Target) (S : PairTables) (m n : Option MapTables) → length S.cycles ≡ G.top + 1 → IsMapPart p G t S m → IsMapPart p G t S n
    → behind_domain G S m ≡ behind_domain G S n → m ≡ n
one_map_part p G None S None None d a b e = refl
one_map_part p G None S None (Some N) d a b e = absurd b
one_map_part p G None S (Some M) n d a b e = absurd a
one_map_part p G (Some T) S None n d a b e = absurd a
one_map_part p G (Some T) S (Some M) None d a b e = absurd b
one_map_part p G (Some T) S (Some M) (Some N) d a b e =
    let W : Tables = tables_by S (Some M) in
    let V : Tables = tables_by S (Some N) in
    let rest : MapTables → List (List ℕ) = λ L. with_end (map (text_of_line G (tables_by S (Some L))) (value_lines L ++ matrix_lines S L)) in
    let parts : (L : MapTables) → behind_domain G S (Some L) ≡ map (text_of_line G (tables_by S (Some L))) (pair_lines range_side L.range) ++ rest L = λ L.
    let h : Line → List ℕ = text_of_line G (tables_by S (Some L)) in
    ap (λ l. with_end (map h l)) (append_assoc (pair_lines range_side L.range) (value_lines L) (matrix_lines S L))
    ∙ ap with_end (map-append h (pair_lines range_side L.range) (value_lines L ++ matrix_lines S L))
    ∙ append_assoc (map h (pair_lines range_side L.range)) (map h (value_lines L ++ matrix_lines S L)) (codes "end\n" ∷ []) in
    let r = one_pair p G.top T.y T.b G range_side W V a.range b.range (rest M) (rest N) (λ (q : 118 ≡ 122). omega arith) (λ (q : 118 ≡ 122). omega arith) (sym (parts M) ∙ e ∙ parts N) in
    ap (λ (L : MapTables). Some L) (one_map p G T S M N a b r.0 (codes "end\n" ∷ []) (codes "end\n" ∷ []) r.1 d)

one_value : (p : ℕ) (G : Given) (S P : PairTables) (m n : Option MapTables) → IsTables p G (tables_by S m) → IsTables p G (tables_by P n)
    → map (text_of_line G (tables_by S m)) (pair_lines domain_side S ++ map_lines S m ++ end ∷ [])
    ≡ map (text_of_line G (tables_by P n)) (pair_lines domain_side P ++ map_lines P n ++ end ∷ [])
    → tables_by S m ≡ tables_by P n
one_value p G S P m n a b e =
    let W : Tables = tables_by S m in
    let V : Tables = tables_by P n in
    let r = one_pair p G.top G.x G.a G domain_side W V a.domain b.domain (behind_domain G S m) (behind_domain G P n) (begins_otherwise G S m) (begins_otherwise G P n)
    (sym (all_lines G S m) ∙ e ∙ all_lines G P n) in
    let s = one_map_part p G G.target S m n a.domain.degrees a.map (subst (λ (Q : PairTables). IsMapPart p G G.target Q n) (sym r.0) b.map)
    (r.1 ∙ ap (λ (Q : PairTables). behind_domain G Q n) (sym r.0)) in
    ap (λ (Q : PairTables). tables_by Q m) r.0 ∙ ap (λ (l : Option MapTables). tables_by P l) s

pub have_one_value : (p : ℕ) (G : Given) → HaveOneValue (tables_format p G)
have_one_value p G ts W V w v = one_value p G W.domain V.domain W.map V.map w.fits v.fits (w.lines ∙ sym v.lines)
