-- Where the bytes leave the form of a map's witness.
use Rattle.std.proofs.Common.{◌≡◌, ℕ, suc, ◌+◌, ◌<◌, refl, sym, ap, ◌∙◌, arith, ⊎_elim, List, [], ◌∷◌, ◌++◌, length, get_or, Bool, true, subst}
use Rattle.std.specs.Prelude.{codes}
use Rattle.cube_sets.specs.Closures.{cells_of}
use Rattle.witness_laws.specs.Lines.{domain, range, lines_of, IsOneLine}
use Rattle.witness_laws.specs.Inputs.{Given, target_of}
use Rattle.witness_laws.proofs.Texts.{texts_have_their_lines}
use Rattle.witness_runs.specs.declared.miss.Stop.{Stop}
use Rattle.witness_runs.specs.declared.miss.Stop.TheVariants as stops
use Rattle.witness_types.specs.declared.part.PairPart.{PairPart}
use Rattle.witness_reading.specs.Ends.{IfTold}
use Rattle.witness_reading.proofs.Forms.{Item, Then, reads_line}
use Rattle.witness_reading.proofs.Stops.{text_here}
use Rattle.witness_reading.proofs.Shapes.{word_item, IsWordItem, told_word, no_word_here}
use Rattle.witness_reading.proofs.Cycling.{IsOver}
use Rattle.witness_reading.proofs.Places.{StopsAt, at_here, at_behind}
use Rattle.witness_reading.proofs.Items.{pair_kinds}
use Rattle.witness_reading.proofs.Sections.{section_step, pair_some}
use Rattle.witness_reading.proofs.Parting.{LeavesBy, by_step, section_leaves}
use Rattle.witness_reading.proofs.Pairs.{cell_numbers, cell_kinds}
use Rattle.witness_reading.proofs.PairForm.{End}
use Rattle.witness_reading.proofs.Ending.{end_leaves, end_fills, domain_line}
use Rattle.map_lines.specs.Cells.{StopsInCells}
use Rattle.map_lines.specs.Matrices.{size_in, StopsInMatrices}
use Rattle.map_lines.specs.Whole.{LacksLine, HasValues, StopsBehindValues, StopsValues, StopsBehindMatrix, StopsAtEnd, StopsMatrixPart, HasPairs, StopsInRange, StopsPairs, StopsInValues, StopsBehindAll, StopsMap}
use Rattle.map_lines.proofs.Blocks.{Blocks, blocks_some, blocks_step, blocks_leave}
use Rattle.map_lines.proofs.Rows.{Matrices, matrices_some, matrices_step, matrices_leave}
use Rattle.map_lines.proofs.MapForm.{naming, cubes, images, MatrixPart, ValuePart, RangePart, MapForm}

-- a known line that does not stand there
line_leaves : (line : List ℕ) (N : List Item → Type 0) (ys : List Item) → N ys → (bytes : List ℕ) (stop : Stop) → LacksLine line bytes stop → LeavesBy (Then (IsWordItem line) (λ _. N)) bytes stop
line_leaves line N ys m bytes stop s = subst (LeavesBy (Then (IsWordItem line) (λ _. N)) bytes) (sym s.left_is)
    (at_here true (Then (IsWordItem line) (λ _. N)) bytes (text_here (IsWordItem line) (λ _. N) (lines_of bytes) (word_item line ∷ ys) (refl, m) (no_word_here line bytes s.here)))

-- behind one that does
line_step : (line : List ℕ) (N : List Item → Type 0) → IsOneLine line → (bytes behind : List ℕ) → bytes ≡ line ++ behind → (b : Bool) (left : ℕ) → StopsAt b N behind left
    → StopsAt b (Then (IsWordItem line) (λ _. N)) bytes left
line_step line N o bytes behind e b left s =
    at_behind b (Then (IsWordItem line) (λ _. N)) (word_item line ∷ []) N bytes line behind left e (ap lines_of e ∙ texts_have_their_lines.first line behind o)
    (reads_line (IsWordItem line) (λ _. N) (word_item line) (told_word line) refl) (tt, tt) s

values_line : IsOneLine (codes "values\n")
values_line = record { before = codes "values"; none = refl; ends = refl }

matrix_line : IsOneLine (codes "matrix\n")
matrix_line = record { before = codes "matrix"; none = refl; ends = refl }

range_line : IsOneLine (codes "pair range\n")
range_line = record { before = codes "pair range"; none = refl; ends = refl }

module _ (p : ℕ) (positive : 0 < p) (G : Given) where
  -- ---- some lists of the form, and how they begin

  module _ (cs ds : List (ℕ × List (ℕ × ℕ))) where
    abbrev MatrixRest : List Item → Type 0
    MatrixRest = Matrices p (size_in ds) (size_in cs) 0 (suc G.top) End

    abbrev ValueRest : List Item → Type 0
    ValueRest = Blocks p (naming p G) (cubes p G) (images p G) 0 (length (cells_of (cubes p G))) (MatrixPart p G cs ds)

    matrix_rest : (ys : List Item) × MatrixRest ys
    matrix_rest = let f = end_fills cs in matrices_some p (size_in ds) (size_in cs) positive 0 (suc G.top) End f.0 f.1

    matrix_some : (ys : List Item) × MatrixPart p G cs ds ys
    matrix_some = (word_item (codes "matrix\n") ∷ matrix_rest.0, (refl, matrix_rest.1))

    value_rest : (ys : List Item) × ValueRest ys
    value_rest = blocks_some p (naming p G) (cubes p G) (images p G) 0 (length (cells_of (cubes p G))) (MatrixPart p G cs ds) matrix_some.0 matrix_some.1

    value_some : (ys : List Item) × ValuePart p G cs ds ys
    value_some = (word_item (codes "values\n") ∷ value_rest.0, (refl, value_rest.1))

    -- ---- where the bytes leave them

    end_part : (bytes : List ℕ) (stop : Stop) → StopsAtEnd p G.top (size_in ds) (size_in cs) bytes stop → LeavesBy (MatrixPart p G cs ds) bytes stop
    end_part bytes stop s =
        by_step (MatrixPart p G cs ds) MatrixRest bytes s.behind stop (λ b left x. line_step (codes "matrix\n") MatrixRest matrix_line bytes s.behind s.split b left x)
        (by_step MatrixRest End s.behind s.rest stop
        (λ b left x. subst (λ (n : ℕ). StopsAt b (Matrices p (size_in ds) (size_in cs) 0 n End) s.behind left) s.matrices.many
        (matrices_step p (size_in ds) (size_in cs) 0 End b s.behind s.ts s.rest left s.matrices.matrices x))
        (end_leaves s.rest stop s.here))

    rows_part : (bytes : List ℕ) (stop : Stop) → StopsInMatrices p G.top (size_in ds) (size_in cs) bytes stop → LeavesBy MatrixRest bytes stop
    rows_part bytes stop s =
        let f = end_fills cs in
        matrices_leave p (size_in ds) (size_in cs) positive 0 (suc G.top) (length s.before) End f.0 f.1 bytes s.before s.behind stop s.within (let q : length s.before ≡ 0 + length s.before = omega arith in q)
        s.matrices s.here

    pub matrix_leaves : (bytes : List ℕ) (stop : Stop) → StopsMatrixPart p G.top (size_in ds) (size_in cs) bytes stop → LeavesBy (MatrixPart p G cs ds) bytes stop
    matrix_leaves bytes stop = ⊎_elim
        (λ s. line_leaves (codes "matrix\n") MatrixRest matrix_rest.0 matrix_rest.1 bytes stop s)
        (⊎_elim
        (λ (s : StopsBehindMatrix p G.top (size_in ds) (size_in cs) bytes stop).
        by_step (MatrixPart p G cs ds) MatrixRest bytes s.behind stop (λ b left x. line_step (codes "matrix\n") MatrixRest matrix_line bytes s.behind s.split b left x)
        (rows_part s.behind stop s.here))
        (λ s. end_part bytes stop s))

    cells_part : (bytes : List ℕ) (stop : Stop) → StopsInCells p (naming p G) (cubes p G) (images p G) bytes stop → LeavesBy ValueRest bytes stop
    cells_part bytes stop s =
        blocks_leave p (naming p G) (cubes p G) (images p G) 0 (length (cells_of (cubes p G))) (length s.vertices) (MatrixPart p G cs ds) matrix_some.0 matrix_some.1 bytes s.vertices s.fillings s.images
        s.behind stop s.within (let q : length s.vertices ≡ 0 + length s.vertices = omega arith in q) s.before s.here

    pub values_leave : (bytes : List ℕ) (stop : Stop) → StopsValues p (naming p G) (cubes p G) (images p G) bytes stop → LeavesBy (ValuePart p G cs ds) bytes stop
    values_leave bytes stop = ⊎_elim
        (λ s. line_leaves (codes "values\n") ValueRest value_rest.0 value_rest.1 bytes stop s)
        (λ (s : StopsBehindValues p (naming p G) (cubes p G) (images p G) bytes stop).
        by_step (ValuePart p G cs ds) ValueRest bytes s.behind stop (λ b left x. line_step (codes "values\n") ValueRest values_line bytes s.behind s.split b left x)
        (cells_part s.behind stop s.here))

    pub values_step : (bytes vs : List ℕ) (fs : List (List (List (ℕ × ℕ)))) (ms : List (List (ℕ × ℕ))) (rest : List ℕ) → HasValues p (naming p G) (cubes p G) (images p G) bytes vs fs ms rest
        → (b : Bool) (left : ℕ) → StopsAt b (MatrixPart p G cs ds) rest left → StopsAt b (ValuePart p G cs ds) bytes left
    values_step bytes vs fs ms rest h b left x =
        line_step (codes "values\n") ValueRest values_line bytes h.behind h.split b left
        (subst (λ (n : ℕ). StopsAt b (Blocks p (naming p G) (cubes p G) (images p G) 0 n (MatrixPart p G cs ds)) h.behind left) h.cells.many
        (blocks_step p (naming p G) (cubes p G) (images p G) 0 (MatrixPart p G cs ds) b h.behind vs fs ms rest left h.cells.cells x))

  -- the parts do not begin like a cycle
  value_over : (cs : List (ℕ × List (ℕ × ℕ))) → IsOver (ValuePart p G cs)
  value_over cs ds [] k z = k
  value_over cs ds (y ∷ ys) k z = let e : ◌≡◌ {A = ℕ} 118 122 = ap (λ (x : Item). get_or x.text 0 0) (sym k.0) ∙ z in absurd (omega arith)

  range_over : IsOver (RangePart p G)
  range_over cs [] k z = k
  range_over cs (y ∷ ys) k z = let e : ◌≡◌ {A = ℕ} 112 122 = ap (λ (x : Item). get_or x.text 0 0) (sym k.0) ∙ z in absurd (omega arith)

  range_some : (cs : List (ℕ × List (ℕ × ℕ))) → (ys : List Item) × RangePart p G cs ys
  range_some cs =
      let f = pair_some p G.top (pair_kinds G range) (cell_numbers G range) (cell_kinds G range) (ValuePart p G cs) (value_over cs) (value_some cs) in
      (word_item (codes "pair range\n") ∷ f.0, (refl, f.1))

  -- behind both sections
  pairs_step : (bytes : List ℕ) (S R : PairPart p) (rest : List ℕ) → HasPairs p G.top G.x G.a (target_of G).y (target_of G).b bytes S R rest → (b : Bool) (left : ℕ) → StopsAt b (ValuePart p G S.cycles.items R.cycles.items) rest left
      → StopsAt b (MapForm p G) bytes left
  pairs_step bytes S R rest h b left x =
      section_step p G.top (pair_kinds G domain) (cell_numbers G domain) (cell_kinds G domain) (RangePart p G) range_over range_some b (codes "pair domain\n") bytes S.cycles.items S.cocycles.items
      S.homotopy.items h.middle left domain_line h.first
      (section_step p G.top (pair_kinds G range) (cell_numbers G range) (cell_kinds G range) (ValuePart p G S.cycles.items) (value_over S.cycles.items) (value_some S.cycles.items) b (codes "pair range\n")
      h.middle R.cycles.items R.cocycles.items R.homotopy.items rest left range_line h.second x)

  pairs_leave : (bytes : List ℕ) (stop : Stop) → StopsPairs p G.top G.x G.a (target_of G).y (target_of G).b bytes stop → LeavesBy (MapForm p G) bytes stop
  pairs_leave bytes stop = ⊎_elim
      (λ s. section_leaves p G.top (pair_kinds G domain) (cell_numbers G domain) (cell_kinds G domain) (RangePart p G) range_over range_some (codes "pair domain\n") bytes stop domain_line s)
      (λ (s : StopsInRange p G.top G.x G.a (target_of G).y (target_of G).b bytes stop).
      by_step (MapForm p G) (RangePart p G s.domain.cycles.items) bytes s.middle stop
      (λ b left x. section_step p G.top (pair_kinds G domain) (cell_numbers G domain) (cell_kinds G domain) (RangePart p G) range_over range_some b (codes "pair domain\n") bytes s.domain.cycles.items
      s.domain.cocycles.items s.domain.homotopy.items s.middle left domain_line s.first x)
      (section_leaves p G.top (pair_kinds G range) (cell_numbers G range) (cell_kinds G range) (ValuePart p G s.domain.cycles.items) (value_over s.domain.cycles.items) (value_some s.domain.cycles.items)
      (codes "pair range\n") s.middle stop range_line s.here))

  pub map_leaves : (bytes : List ℕ) (stop : Stop) → StopsMap p G bytes stop → LeavesBy (MapForm p G) bytes stop
  map_leaves bytes stop = ⊎_elim
      (λ s. pairs_leave bytes stop s)
      (⊎_elim
      (λ (s : StopsInValues p G bytes stop).
      by_step (MapForm p G) (ValuePart p G s.domain.cycles.items s.range.cycles.items) bytes s.behind stop (λ b left x. pairs_step bytes s.domain s.range s.behind s.pairs b left x)
      (values_leave s.domain.cycles.items s.range.cycles.items s.behind stop s.here))
      (λ (s : StopsBehindAll p G bytes stop).
      by_step (MapForm p G) (ValuePart p G s.domain.cycles.items s.range.cycles.items) bytes s.behind stop (λ b left x. pairs_step bytes s.domain s.range s.behind s.pairs b left x)
      (by_step (ValuePart p G s.domain.cycles.items s.range.cycles.items) (MatrixPart p G s.domain.cycles.items s.range.cycles.items) s.behind s.last stop
      (λ b left x. values_step s.domain.cycles.items s.range.cycles.items s.behind s.vertices s.fillings s.images s.last s.values b left x)
      (matrix_leaves s.domain.cycles.items s.range.cycles.items s.last stop s.here))))

  -- a stop that is told, or want of memory
  pub map_told : (bytes : List ℕ) (stop : Stop) → IfTold (StopsMap p G bytes) stop → LeavesBy (MapForm p G) bytes stop
  map_told bytes (stops.At left law) s = map_leaves bytes (stops.At left law) s
  map_told bytes stops.NoMemory s = tt
