-- The lines of matrices as a form: a run of rows for each degree.
use Rattle.std.proofs.Common.{◌≡◌, ℕ, zero, suc, ◌+◌, ◌<◌, ◌≤◌, refl, sym, ap, ◌∙◌, arith, List, [], ◌∷◌, ◌++◌, length, get_or, map, drop, Bool, true, append_assoc, subst}
use Rattle.std.proofs.lemmas.List.{map-append, length-map, drop_all}
use Rattle.leray_conley.specs.Tables.{Table}
use Rattle.witness_laws.specs.declared.law.Law.TheVariants as laws
use Rattle.witness_laws.specs.Lines.{row_line, lines_of, each}
use Rattle.witness_laws.proofs.Telling.{lines_tell_their_parts}
use Rattle.witness_laws.proofs.Runs.{length_singles}
use Rattle.witness_scanning.specs.Terms.{AreBelow}
use Rattle.witness_scanning.specs.Lines.{HasNoRowLine}
use Rattle.witness_runs.specs.declared.miss.Stop.{Stop}
use Rattle.witness_runs.specs.declared.miss.Stop.TheVariants as stops
use Rattle.witness_runs.specs.Rows.{rows_text, AreRows, HasRows, StopsAt as RowsStopAt, StopsRows}
use Rattle.witness_reading.proofs.Forms.{Item, texts, Reads, Run, IsTold, AreRun, reads_run, run_some}
use Rattle.witness_reading.proofs.Stops.{AllNames, all_names, BeginsWith, text_here}
use Rattle.witness_reading.proofs.Shapes.{in_front}
use Rattle.witness_reading.proofs.Runs.{one_row, first_line}
use Rattle.witness_reading.proofs.Places.{StopsAt, at_here, at_behind}
use Rattle.witness_reading.proofs.Parting.{LeavesBy, by_step}
use Rattle.witness_reading.proofs.Pairs.{run_of}
use Rattle.map_lines.specs.Matrices.{row_lines, HasMatrix, HasMatrices}

abbrev pub row_item : ℕ → List ℕ → Item
row_item k es = record { text = row_line k es; kinds = []; wanted = 0; terms = [] }

pub record IsRowItem (p k width : ℕ) (z : Item) : Type 0 where
  pub entries : List ℕ
  pub many : length entries ≡ width
  pub below : AreBelow p entries
  pub is : z ≡ row_item k entries

told_row : (p k width : ℕ) → IsTold (IsRowItem p k width)
told_row p k width y z a b e =
    let f : row_line k a.entries ≡ row_line k b.entries = sym (ap (λ (x : Item). x.text) a.is) ∙ e ∙ ap (λ (x : Item). x.text) b.is in
    a.is ∙ ap (row_item k) (lines_tell_their_parts.row k k a.entries b.entries f).1 ∙ sym b.is

no_row_here : (p k width : ℕ) (bytes : List ℕ) → HasNoRowLine k width p bytes → (z : Item) → IsRowItem p k width z → BeginsWith z.text (lines_of bytes) → ⊥
no_row_here p k width bytes h z a b =
    let w = in_front bytes z.text b in
    h a.entries w.0 (record { many = a.many; below = a.below; split = w.1 ∙ ap (λ (x : Item). x.text ++ w.0) a.is })

-- the numbers of rows
abbrev pub row_heads : ℕ → List ℕ
row_heads n = each n (λ r. r ∷ [])

abbrev pub row_items : ℕ → List (List ℕ) → List Item
row_items k rs = map (row_item k) rs

rows_are : (p k width : ℕ) (ns : List ℕ) (rs : List (List ℕ)) → length rs ≤ length ns → AreRows p width rs → AreRun (λ (_ : ℕ). IsRowItem p k width) ns (row_items k rs)
rows_are p k width ns [] l a = tt
rows_are p k width [] (r ∷ rs) l a = absurd (omega arith)
rows_are p k width (n ∷ ns) (r ∷ rs) l a = (record { entries = r; many = a.0; below = a.1; is = refl }, rows_are p k width ns rs (omega arith) a.2)

rows_lines : (k : ℕ) (rs : List (List ℕ)) (rest : List ℕ) → lines_of (rows_text k rs ++ rest) ≡ texts (row_items k rs) ++ lines_of rest
rows_lines k [] rest = refl
rows_lines k (r ∷ rs) rest = first_line (row_line k r) (rows_text k rs) rest (one_row k r) ∙ ap (λ l. row_line k r ∷ l) (rows_lines k rs rest)

pub rows_names : (k : ℕ) (rs : List (List ℕ)) → AllNames (row_items k rs)
rows_names k [] = tt
rows_names k (r ∷ rs) = (tt, rows_names k rs)

abbrev zeros : ℕ → List ℕ
zeros n = each n (λ i. 0 ∷ [])

zeros_below : (p n : ℕ) → 0 < p → AreBelow p (zeros n)
zeros_below p zero l = tt
zeros_below p (suc n) l = (l, zeros_below p n l)

drop_some : (i : ℕ) (ns : List ℕ) → i < length ns → drop i ns ≡ get_or ns i 0 ∷ drop (suc i) ns
drop_some i [] l = absurd (omega arith)
drop_some zero (n ∷ ns) l = refl
drop_some (suc i) (n ∷ ns) l = drop_some i ns (omega arith)

some_row : (p k width : ℕ) → 0 < p → ℕ → (z : Item) × IsRowItem p k width z
some_row p k width positive n = (row_item k (zeros width), record { entries = zeros width; many = length_singles width (λ i. 0); below = zeros_below p width positive; is = refl })

module _ (p k width : ℕ) where
  -- the rows of a matrix
  abbrev pub RowRun : ℕ → (List Item → Type 0) → List Item → Type 0
  RowRun height N = Run (λ (_ : ℕ). IsRowItem p k width) (row_heads height) (λ _. N)

  pub rows_some : 0 < p → (height : ℕ) (N : List Item → Type 0) (ys : List Item) → N ys → (zs : List Item) × RowRun height N zs
  rows_some positive height N ys m = run_some (λ (_ : ℕ). IsRowItem p k width) (row_heads height) (λ _. N) (some_row p k width positive) (λ xs a e. (ys, m))

  heads_many : (height : ℕ) → length (row_heads height) ≡ height
  heads_many height = length_singles height (λ r. r)

  pub rows_form : (height : ℕ) (N : List Item → Type 0) (rs : List (List ℕ)) (ys : List Item) → length rs ≡ height → AreRows p width rs → N ys → RowRun height N (row_items k rs ++ ys)
  rows_form height N rs ys e a m =
      run_of (λ (_ : ℕ). IsRowItem p k width) (row_heads height) N (row_items k rs) ys (rows_are p k width (row_heads height) rs (let b = heads_many height in omega arith) a)
      (length-map rs (row_item k) ∙ e ∙ sym (heads_many height)) m

  pub record HasRun (n : ℕ) (N : List Item → Type 0) (zs : List Item) : Type 0 where
    pub rows : List (List ℕ)
    pub rest : List Item
    pub many : length rows ≡ n
    pub are : AreRows p width rows
    pub is : zs ≡ row_items k rows ++ rest
    pub allowed : N rest

  back : (ns : List ℕ) (N : List Item → Type 0) (zs : List Item) → Run (λ (_ : ℕ). IsRowItem p k width) ns (λ _. N) zs → HasRun (length ns) N zs
  back [] N zs h = record { rows = []; rest = zs; many = refl; are = tt; is = refl; allowed = h }
  back (n ∷ ns) N [] h = absurd h
  back (n ∷ ns) N (z ∷ zs) h =
      let w = back ns N zs h.1 in
      record {
        rows = h.0.entries ∷ w.rows;
        rest = w.rest;
        many = ap suc w.many;
        are = (h.0.many, h.0.below, w.are);
        is = ap (λ (y : Item). y ∷ zs) h.0.is ∙ ap (λ (l : List Item). row_item k h.0.entries ∷ l) w.is;
        allowed = w.allowed;
      }

  pub rows_back : (height : ℕ) (N : List Item → Type 0) (zs : List Item) → RowRun height N zs → HasRun height N zs
  rows_back height N zs h = subst (λ (n : ℕ). HasRun n N zs) (heads_many height) (back (row_heads height) N zs h)

  -- ---- reading

  module _ (height : ℕ) (N : List Item → Type 0) (bytes : List ℕ) where
    abbrev P : ℕ → Item → Type 0
    P _ = IsRowItem p k width

    module _ (line : ℕ) (es rest : List ℕ) (h : HasRows p k width line bytes es rest) (within : line ≤ height) where
      abbrev Left : List Item → Type 0
      Left = Run P (drop (length (row_items k h.rows)) (row_heads height)) (λ _. N)

      many : length (row_items k h.rows) ≡ line
      many = length-map h.rows (row_item k) ∙ h.many

      reads : Reads (RowRun height N) (row_items k h.rows) Left
      reads = reads_run P (row_heads height) (λ _. N) (row_items k h.rows) (λ n. told_row p k width)
          (rows_are p k width (row_heads height) h.rows (let a = heads_many height in let b = h.many in omega arith) h.are)

      pub rows_split : lines_of bytes ≡ texts (row_items k h.rows) ++ lines_of rest
      rows_split = ap lines_of h.split ∙ rows_lines k h.rows rest

      behind : (b : Bool) (left : ℕ) → StopsAt b Left rest left → StopsAt b (RowRun height N) bytes left
      behind b left s = at_behind b (RowRun height N) (row_items k h.rows) Left bytes (rows_text k h.rows) rest left h.split rows_split reads (rows_names k h.rows) s

      pub rows_step : (b : Bool) (left : ℕ) → line ≡ height → StopsAt b N rest left → StopsAt b (RowRun height N) bytes left
      rows_step b left e s =
          let d : drop (length (row_items k h.rows)) (row_heads height) ≡ [] = drop_all (length (row_items k h.rows)) (row_heads height) (let a = many in let c = heads_many height in omega arith) in
          behind b left (subst (λ (l : List ℕ). StopsAt b (Run P l (λ _. N)) rest left) (sym d) s)

      pub rows_stop : 0 < p → (ys : List Item) → N ys → line < height → HasNoRowLine k width p rest → StopsAt true (RowRun height N) bytes (length rest)
      rows_stop positive ys m l n =
          let ns : List ℕ = row_heads height in
          let d : drop (length (row_items k h.rows)) ns ≡ get_or ns line 0 ∷ drop (suc line) ns =
          ap (λ (i : ℕ). drop i ns) many ∙ drop_some line ns (let c = heads_many height in omega arith) in
          let f = run_some P (get_or ns line 0 ∷ drop (suc line) ns) (λ _. N) (some_row p k width positive) (λ xs a e. (ys, m)) in
          behind true (length rest) (subst (λ (t : List ℕ). StopsAt true (Run P t (λ _. N)) rest (length rest)) (sym d)
          (at_here true (Run P (get_or ns line 0 ∷ drop (suc line) ns) (λ _. N)) rest
          (text_here (IsRowItem p k width) (λ _. Run P (drop (suc line) ns) (λ _. N)) (lines_of rest) f.0 f.1 (no_row_here p k width rest n))))

    at_row : 0 < p → (left : ℕ) (ys : List Item) → N ys → RowsStopAt p k width height bytes left → StopsAt true (RowRun height N) bytes left
    at_row positive left ys m s =
        subst (λ (n : ℕ). StopsAt true (RowRun height N) bytes n) (sym s.left_is)
        (rows_stop s.line s.entries s.rest s.has (let a = s.within in omega arith) positive ys m s.within s.here)

    pub rows_leave : 0 < p → (stop : Stop) (ys : List Item) → N ys → StopsRows p k width height bytes stop → LeavesBy (RowRun height N) bytes stop
    rows_leave positive stops.NoMemory ys m s = tt
    rows_leave positive (stops.At left laws.Text) ys m s = at_row positive left ys m s
    rows_leave positive (stops.At left laws.Cell) ys m s = absurd s
    rows_leave positive (stops.At left laws.Header) ys m s = absurd s
    rows_leave positive (stops.At left laws.Cycle) ys m s = absurd s
    rows_leave positive (stops.At left laws.Dual) ys m s = absurd s
    rows_leave positive (stops.At left laws.Cocycle) ys m s = absurd s
    rows_leave positive (stops.At left laws.Contraction) ys m s = absurd s
    rows_leave positive (stops.At left laws.ValueContraction) ys m s = absurd s
    rows_leave positive (stops.At left laws.Carried) ys m s = absurd s
    rows_leave positive (stops.At left laws.Augmentation) ys m s = absurd s
    rows_leave positive (stops.At left laws.Commutes) ys m s = absurd s
    rows_leave positive (stops.At left laws.Matrix) ys m s = absurd s

-- ---- the matrices of all degrees

abbrev pub matrices_items : ℕ → List (List (List ℕ)) → List Item
matrices_items k [] = []
matrices_items k (rs ∷ ms) = row_items k rs ++ matrices_items (suc k) ms

pub matrices_names : (k : ℕ) (ms : List (List (List ℕ))) → AllNames (matrices_items k ms)
matrices_names k [] = tt
matrices_names k (rs ∷ ms) = all_names (row_items k rs) (matrices_items (suc k) ms) (rows_names k rs) (matrices_names (suc k) ms)

module _ (p : ℕ) (height width : ℕ → ℕ) where
  abbrev pub lines_in : ℕ → ℕ
  lines_in k = row_lines (height k) (width k)

  abbrev pub Matrices : ℕ → ℕ → (List Item → Type 0) → List Item → Type 0
  Matrices k zero N = N
  Matrices k (suc n) N = RowRun p k (width k) (lines_in k) (Matrices (suc k) n N)

  -- the rows that have lines
  abbrev pub AreMatrixRows : ℕ → List (List (List ℕ)) → Type 0
  AreMatrixRows k [] = Unit {0}
  AreMatrixRows k (rs ∷ ms) = (length rs ≡ lines_in k) × AreRows p (width k) rs × AreMatrixRows (suc k) ms

  pub matrices_some : 0 < p → (k n : ℕ) (N : List Item → Type 0) (ys : List Item) → N ys → (zs : List Item) × Matrices k n N zs
  matrices_some positive k zero N ys m = (ys, m)
  matrices_some positive k (suc n) N ys m =
      let w = matrices_some positive (suc k) n N ys m in
      rows_some p k (width k) positive (lines_in k) (Matrices (suc k) n N) w.0 w.1

  pub matrices_form : (k : ℕ) (ms : List (List (List ℕ))) (N : List Item → Type 0) (ys : List Item) → AreMatrixRows k ms → N ys → Matrices k (length ms) N (matrices_items k ms ++ ys)
  matrices_form k [] N ys a m = m
  matrices_form k (rs ∷ ms) N ys a m =
      subst (Matrices k (suc (length ms)) N) (sym (append_assoc (row_items k rs) (matrices_items (suc k) ms) ys))
      (rows_form p k (width k) (lines_in k) (Matrices (suc k) (length ms) N) rs (matrices_items (suc k) ms ++ ys) a.0 a.1 (matrices_form (suc k) ms N ys a.2 m))

  pub record HasMatrixRows (k n : ℕ) (N : List Item → Type 0) (zs : List Item) : Type 0 where
    pub matrices : List (List (List ℕ))
    pub rest : List Item
    pub many : length matrices ≡ n
    pub are : AreMatrixRows k matrices
    pub is : zs ≡ matrices_items k matrices ++ rest
    pub allowed : N rest

  pub matrices_back : (k n : ℕ) (N : List Item → Type 0) (zs : List Item) → Matrices k n N zs → HasMatrixRows k n N zs
  matrices_back k zero N zs h = record { matrices = []; rest = zs; many = refl; are = tt; is = refl; allowed = h }
  matrices_back k (suc n) N zs h =
      let a = rows_back p k (width k) (lines_in k) (Matrices (suc k) n N) zs h in
      let b = matrices_back (suc k) n N a.rest a.allowed in
      record {
        matrices = a.rows ∷ b.matrices;
        rest = b.rest;
        many = ap suc b.many;
        are = (a.many, a.are, b.are);
        is = a.is ∙ ap (λ (l : List Item). row_items k a.rows ++ l) b.is ∙ sym (append_assoc (row_items k a.rows) (matrices_items (suc k) b.matrices) b.rest);
        allowed = b.allowed;
      }

  -- ---- what was read

  abbrev pub lines_read : (k : ℕ) (bytes : List ℕ) (ts : List Table) (rest : List ℕ) → HasMatrices p height width k bytes ts rest → List (List (List ℕ))
  lines_read k bytes [] rest h = []
  lines_read k bytes (t ∷ ts) rest h = h.1.has.rows ∷ lines_read (suc k) h.0 ts rest h.2

  pub lines_many : (k : ℕ) (bytes : List ℕ) (ts : List Table) (rest : List ℕ) (h : HasMatrices p height width k bytes ts rest) → length (lines_read k bytes ts rest h) ≡ length ts
  lines_many k bytes [] rest h = refl
  lines_many k bytes (t ∷ ts) rest h = ap suc (lines_many (suc k) h.0 ts rest h.2)

  pub lines_are : (k : ℕ) (bytes : List ℕ) (ts : List Table) (rest : List ℕ) (h : HasMatrices p height width k bytes ts rest) → AreMatrixRows k (lines_read k bytes ts rest h)
  lines_are k bytes [] rest h = tt
  lines_are k bytes (t ∷ ts) rest h = (h.1.has.many, h.1.has.are, lines_are (suc k) h.0 ts rest h.2)

  pub lines_split : (k : ℕ) (bytes : List ℕ) (ts : List Table) (rest : List ℕ) (h : HasMatrices p height width k bytes ts rest)
      → lines_of bytes ≡ texts (matrices_items k (lines_read k bytes ts rest h)) ++ lines_of rest
  lines_split k bytes [] rest h = ap lines_of h
  lines_split k bytes (t ∷ ts) rest h =
      let more : List Item = matrices_items (suc k) (lines_read (suc k) h.0 ts rest h.2) in
      ap lines_of h.1.has.split ∙ rows_lines k h.1.has.rows h.0 ∙ ap (λ (l : List (List ℕ)). texts (row_items k h.1.has.rows) ++ l) (lines_split (suc k) h.0 ts rest h.2)
      ∙ sym (append_assoc (texts (row_items k h.1.has.rows)) (texts more) (lines_of rest))
      ∙ ap (λ l. l ++ lines_of rest) (sym (map-append (λ (z : Item). z.text) (row_items k h.1.has.rows) more))

  -- ---- where the bytes leave the form

  matrix_step : (k : ℕ) (N : List Item → Type 0) (b : Bool) (bytes : List ℕ) (t : Table) (rest : List ℕ) (left : ℕ) → HasMatrix p k (height k) (width k) bytes t rest → StopsAt b N rest left
      → StopsAt b (RowRun p k (width k) (lines_in k) N) bytes left
  matrix_step k N b bytes t rest left h s = rows_step p k (width k) (lines_in k) N bytes (lines_in k) t.entries rest h.has (omega arith) b left refl s

  pub matrices_step : (k : ℕ) (N : List Item → Type 0) (b : Bool) (bytes : List ℕ) (ts : List Table) (rest : List ℕ) (left : ℕ) → HasMatrices p height width k bytes ts rest → StopsAt b N rest left
      → StopsAt b (Matrices k (length ts) N) bytes left
  matrices_step k N b bytes [] rest left h s = subst (λ (t : List ℕ). StopsAt b N t left) (sym h) s
  matrices_step k N b bytes (t ∷ ts) rest left h s =
      matrix_step k (Matrices (suc k) (length ts) N) b bytes t h.0 left h.1 (matrices_step (suc k) N b h.0 ts rest left h.2 s)

  pub matrices_leave : 0 < p → (k n j : ℕ) (N : List Item → Type 0) (ys : List Item) → N ys → (bytes : List ℕ) (ts : List Table) (behind : List ℕ) (stop : Stop) → length ts < n → j ≡ k + length ts
      → HasMatrices p height width k bytes ts behind → StopsRows p j (width j) (lines_in j) behind stop → LeavesBy (Matrices k n N) bytes stop
  matrices_leave positive k zero j N ys a bytes ts behind stop l e h s = absurd (omega arith)
  matrices_leave positive k (suc n) j N ys a bytes [] behind stop l e h s =
      let w = matrices_some positive (suc k) n N ys a in
      let q : j ≡ k = omega arith in
      rows_leave p k (width k) (lines_in k) (Matrices (suc k) n N) bytes positive stop w.0 w.1
      (subst (λ (t : List ℕ). StopsRows p k (width k) (lines_in k) t stop) (sym h) (subst (λ (m : ℕ). StopsRows p m (width m) (lines_in m) behind stop) q s))
  matrices_leave positive k (suc n) j N ys a bytes (t ∷ ts) behind stop l e h s =
      by_step (Matrices k (suc n) N) (Matrices (suc k) n N) bytes h.0 stop (λ b left x. matrix_step k (Matrices (suc k) n N) b bytes t h.0 left h.1 x)
      (matrices_leave positive (suc k) n j N ys a h.0 ts behind stop (omega arith) (omega arith) h.2 s)
