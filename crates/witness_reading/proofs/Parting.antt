-- Where the bytes leave the section of a pair, or the lines of a cell.
use Rattle.std.proofs.Common.{◌≡◌, ℕ, refl, sym, ap, ◌∙◌, ⊎_elim, List, [], ◌∷◌, length, Bool, true, false, subst, None, Some}
use Rattle.std.proofs.lemmas.Bool.{true≢false}
use Rattle.std.specs.Prelude.{codes}
use Rattle.witness_laws.specs.declared.law.Law.{Law}
use Rattle.witness_laws.specs.declared.law.Law.TheVariants as laws
use Rattle.witness_laws.specs.Lines.{chain_line, numbers_line, lines_of, IsOneLine}
use Rattle.witness_laws.proofs.Texts.{texts_have_their_lines}
use Rattle.witness_runs.specs.declared.miss.Miss.{Miss}
use Rattle.witness_runs.specs.declared.miss.Miss.TheVariants as misses
use Rattle.witness_runs.specs.declared.miss.Stop.{Stop}
use Rattle.witness_runs.specs.declared.miss.Stop.TheVariants as stops
use Rattle.witness_runs.specs.Misses.{stop_at}
use Rattle.witness_runs.specs.Due.{IsOtherChain, MissesChain, IsDueVertex, IsOtherVertex, MissesVertex}
use Rattle.section_reading.specs.Section.{degrees_of, kinds_of, StopsAtHead, StopsBehindHead, StopsInCocycles, StopsInChains, StopsPair, StopsSection}
use Rattle.section_reading.specs.Cell.{HasValue, HasCell, StopsInValue, StopsCell as CellStops}
use Rattle.witness_reading.proofs.Forms.{Item, reads_line, Then, Run, run_some}
use Rattle.witness_reading.proofs.Stops.{StopsCell, text_here, cell_here}
use Rattle.witness_reading.proofs.Shapes.{word_item, chain_item, vertex_item, IsWordItem, IsChainItem, IsVertexItem, told_chain, told_vertex, no_word_here, no_chain_here, no_vertex_here}
use Rattle.witness_reading.proofs.Runs.{one_chain, one_numbers, heads, IsRunItem, some_run}
use Rattle.witness_reading.proofs.Cycling.{IsOver}
use Rattle.witness_reading.proofs.Places.{StopsAt, at_here, at_behind, run_step, cycles_step}
use Rattle.witness_reading.proofs.Sections.{Chains, Cocycles, Pair, Section, pair_over, chains_some, cocycles_some, pair_some, behind_head}
use Rattle.witness_reading.proofs.Leaving.{Leaves, leaves_step, run_leaves, cycles_leaves}

-- ---- stops

abbrev stop_left : Stop → ℕ
stop_left (stops.At left law) = left
stop_left stops.NoMemory = 0

abbrev stop_law : Stop → Law
stop_law (stops.At left law) = law
stop_law stops.NoMemory = laws.Text

abbrev is_at : Stop → Bool
is_at (stops.At left law) = true
is_at stops.NoMemory = false

-- the bytes leave the form as the stop says
abbrev pub LeavesBy : (List Item → Type 0) → List ℕ → Stop → Type 0
LeavesBy L bytes (stops.At left law) = Leaves L bytes left law
LeavesBy L bytes stops.NoMemory = Unit {0}

pub by_step : (L M : List Item → Type 0) (bytes rest : List ℕ) (stop : Stop) → ((b : Bool) (left : ℕ) → StopsAt b M rest left → StopsAt b L bytes left) → LeavesBy M rest stop
    → LeavesBy L bytes stop
by_step L M bytes rest (stops.At left law) f s = leaves_step L M bytes rest left law (λ b x. f b left x) s
by_step L M bytes rest stops.NoMemory f s = tt

-- ---- sections

module _ (p top : ℕ) (kinds numbers wanted : List ℕ) (K : List (ℕ × List (ℕ × ℕ)) → List Item → Type 0) (over : IsOver K)
    (fills : (cs : List (ℕ × List (ℕ × ℕ))) → (ys : List Item) × K cs ys) where
  chains_by : (bytes : List ℕ) (left : ℕ) (law : Law) → (s : StopsInChains p top kinds numbers wanted bytes (stops.At left law))
      → Leaves (Pair p top kinds numbers wanted K) bytes left law
  chains_by bytes left law s =
      let f = fills s.cycles in
      leaves_step (Pair p top kinds numbers wanted K) (Chains p top kinds numbers wanted K s.cycles) bytes s.last left law
      (λ b x. cycles_step b p top kinds bytes (Cocycles p top kinds numbers wanted K) s.cycles s.behind left (pair_over p top kinds numbers wanted K over fills) s.first
      (run_step b p (codes "c") None kinds (degrees_of s.cycles) (kinds_of s.cycles) s.behind (Chains p top kinds numbers wanted K s.cycles) s.cocycles s.last left refl s.second.run s.second.names x))
      (run_leaves p (codes "h") None kinds numbers wanted s.last (K s.cycles) left refl f.0 f.1 law s.here)

  cocycles_by : (bytes : List ℕ) (left : ℕ) (law : Law) → (s : StopsInCocycles p top kinds bytes (stops.At left law)) → Leaves (Pair p top kinds numbers wanted K) bytes left law
  cocycles_by bytes left law s =
      let f = chains_some p top kinds numbers wanted K over fills s.cycles in
      leaves_step (Pair p top kinds numbers wanted K) (Cocycles p top kinds numbers wanted K s.cycles) bytes s.behind left law
      (λ b x. cycles_step b p top kinds bytes (Cocycles p top kinds numbers wanted K) s.cycles s.behind left (pair_over p top kinds numbers wanted K over fills) s.first x)
      (run_leaves p (codes "c") None kinds (degrees_of s.cycles) (kinds_of s.cycles) s.behind (Chains p top kinds numbers wanted K s.cycles) left refl f.0 f.1 law s.here)

  pair_by : (bytes : List ℕ) (left : ℕ) (law : Law) → StopsPair p top kinds numbers wanted bytes (stops.At left law) → Leaves (Pair p top kinds numbers wanted K) bytes left law
  pair_by bytes left law = ⊎_elim
      (λ s. cycles_leaves p top kinds (Cocycles p top kinds numbers wanted K) (pair_over p top kinds numbers wanted K over fills) (cocycles_some p top kinds numbers wanted K over fills) bytes left law s)
      (⊎_elim (λ s. cocycles_by bytes left law s)
      (⊎_elim (λ s. chains_by bytes left law s) (λ e. absurd (true≢false (ap is_at e)))))

  head_by : (head bytes : List ℕ) (left : ℕ) (law : Law) → StopsAtHead head bytes (stops.At left law) → Leaves (Section p top kinds numbers wanted K head) bytes left law
  head_by head bytes left law s =
      let f = pair_some p top kinds numbers wanted K over fills in
      let L : List Item → Type 0 = Section p top kinds numbers wanted K head in
      let a : left ≡ length bytes = ap stop_left s.left_is in
      let b : law ≡ laws.Text = ap stop_law s.left_is in
      subst (λ (n : ℕ). Leaves L bytes n law) (sym a) (subst (λ (w : Law). Leaves L bytes (length bytes) w) (sym b)
      (at_here true L bytes (text_here (IsWordItem head) (λ _. Pair p top kinds numbers wanted K) (lines_of bytes) (word_item head ∷ f.0) (refl, f.1) (no_word_here head bytes s.here))))

  behind_by : (head bytes : List ℕ) (left : ℕ) (law : Law) → IsOneLine head → StopsBehindHead p head top kinds numbers wanted bytes (stops.At left law)
      → Leaves (Section p top kinds numbers wanted K head) bytes left law
  behind_by head bytes left law o s =
      leaves_step (Section p top kinds numbers wanted K head) (Pair p top kinds numbers wanted K) bytes s.behind_head left law
      (λ b x. behind_head p top kinds numbers wanted K over fills b head bytes s.behind_head left o s.split x)
      (pair_by s.behind_head left law s.here)

  -- a section that stops
  pub section_leaves : (head bytes : List ℕ) (stop : Stop) → IsOneLine head → StopsSection p head top kinds numbers wanted bytes stop
      → LeavesBy (Section p top kinds numbers wanted K head) bytes stop
  section_leaves head bytes (stops.At left law) o = ⊎_elim (λ s. head_by head bytes left law s) (λ s. behind_by head bytes left law o s)
  section_leaves head bytes stops.NoMemory o = λ s. tt

-- ---- the lines of one cell

module _ (p number : ℕ) (value numbers wanted range : List ℕ) (kind : ℕ) (N : List Item → Type 0) where
  abbrev pub Image : List Item → Type 0
  Image = Then (IsChainItem p (codes "f") (number ∷ []) range kind) (λ _. N)

  abbrev pub Fillings : List Item → Type 0
  Fillings = Run (IsRunItem p (codes "g") (Some number) value) (heads numbers wanted) (λ _. Image)

  -- a vertex, a chain for each cell of the value, and the image
  abbrev pub CellLines : List Item → Type 0
  CellLines = Then (IsVertexItem number value) (λ _. Fillings)

  vertex_step : (b : Bool) (bytes : List ℕ) (vertex : ℕ) (rest : List ℕ) (left : ℕ) → IsDueVertex number value 1 bytes vertex rest → StopsAt b Fillings rest left → StopsAt b CellLines bytes left
  vertex_step b bytes vertex rest left d s =
      let t : List ℕ = numbers_line (codes "v") (number ∷ vertex ∷ []) in
      at_behind b CellLines (vertex_item number value vertex ∷ []) Fillings bytes t rest left d.split
      (ap lines_of d.split ∙ texts_have_their_lines.first t rest (one_numbers (codes "v") (number ∷ vertex ∷ []) refl))
      (reads_line (IsVertexItem number value) (λ _. Fillings) (vertex_item number value vertex) (told_vertex number value) (record { vertex = vertex; is = refl })) ((d.names, tt), tt) s

  value_step : (b : Bool) (bytes : List ℕ) (vertex : ℕ) (cs : List (List (ℕ × ℕ))) (rest : List ℕ) (left : ℕ) → HasValue p number value numbers wanted bytes vertex cs rest
      → StopsAt b Image rest left → StopsAt b CellLines bytes left
  value_step b bytes vertex cs rest left h s =
      vertex_step b bytes vertex h.behind left h.first
      (run_step b p (codes "g") (Some number) value numbers wanted h.behind Image cs rest left refl h.second h.names s)

  -- behind the lines of the cell
  pub cell_step : (b : Bool) (bytes : List ℕ) (vertex : ℕ) (cs : List (List (ℕ × ℕ))) (image : List (ℕ × ℕ)) (rest : List ℕ) (left : ℕ)
      → HasCell p number value numbers wanted range kind bytes vertex cs image rest → StopsAt b N rest left → StopsAt b CellLines bytes left
  cell_step b bytes vertex cs image rest left h s =
      let t : List ℕ = chain_line (codes "f") (number ∷ []) image in
      value_step b bytes vertex cs h.last left h.before
      (at_behind b Image (chain_item (codes "f") (number ∷ []) range kind image ∷ []) N h.last t rest left h.third.split
      (ap lines_of h.third.split ∙ texts_have_their_lines.first t rest (one_chain (codes "f") (number ∷ []) image refl))
      (reads_line (IsChainItem p (codes "f") (number ∷ []) range kind) (λ _. N) (chain_item (codes "f") (number ∷ []) range kind image)
      (told_chain p (codes "f") (number ∷ []) range kind) (record { chain = image; are = h.third.are; is = refl })) (h.third.names, tt) s)

  module _ (ys : List Item) (m : N ys) where
    image_some : (zs : List Item) × Image zs
    image_some = (chain_item (codes "f") (number ∷ []) range kind [] ∷ ys, (record { chain = []; are = tt; is = refl }, m))

    fillings_some : (zs : List Item) × Fillings zs
    fillings_some = run_some (IsRunItem p (codes "g") (Some number) value) (heads numbers wanted) (λ _. Image) (some_run p (codes "g") (Some number) value) (λ xs a e. image_some)

    -- some list of the form
    pub cell_some : (zs : List Item) × CellLines zs
    cell_some = (vertex_item number value 0 ∷ fillings_some.0, (record { vertex = 0; is = refl }, fillings_some.1))

    other_vertex : (bytes : List ℕ) → IsOtherVertex number value 1 bytes → StopsCell CellLines (lines_of bytes) 0
    other_vertex bytes h =
        let t : List ℕ = numbers_line (codes "v") (number ∷ h.vertex ∷ []) in
        subst (λ (l : List (List ℕ)). StopsCell CellLines l 0)
        (sym (ap lines_of h.split ∙ texts_have_their_lines.first t h.rest (one_numbers (codes "v") (number ∷ h.vertex ∷ []) refl)))
        (cell_here (IsVertexItem number value) (λ _. Fillings) (vertex_item number value h.vertex) (lines_of h.rest) fillings_some.0 (told_vertex number value)
        (record { vertex = h.vertex; is = refl }) fillings_some.1 (λ n. h.other n.0))

    vertex_by : (bytes : List ℕ) (miss : Miss) → MissesVertex number value 1 bytes miss → LeavesBy CellLines bytes (stop_at (length bytes) miss)
    vertex_by bytes misses.Text h = at_here true CellLines bytes (text_here (IsVertexItem number value) (λ _. Fillings) (lines_of bytes) cell_some.0 cell_some.1 (no_vertex_here number value bytes h))
    vertex_by bytes misses.Cell h = at_here false CellLines bytes (other_vertex bytes h)
    vertex_by bytes misses.NoMemory h = tt

    other_image : (bytes : List ℕ) → IsOtherChain p (codes "f") (number ∷ []) range kind bytes → StopsCell Image (lines_of bytes) 0
    other_image bytes h =
        let t : List ℕ = chain_line (codes "f") (number ∷ []) h.terms in
        subst (λ (l : List (List ℕ)). StopsCell Image l 0)
        (sym (ap lines_of h.split ∙ texts_have_their_lines.first t h.rest (one_chain (codes "f") (number ∷ []) h.terms refl)))
        (cell_here (IsChainItem p (codes "f") (number ∷ []) range kind) (λ _. N) (chain_item (codes "f") (number ∷ []) range kind h.terms) (lines_of h.rest) ys
        (told_chain p (codes "f") (number ∷ []) range kind) (record { chain = h.terms; are = h.are; is = refl }) m h.other)

    image_by : (bytes : List ℕ) (miss : Miss) → MissesChain p (codes "f") (number ∷ []) range kind bytes miss → LeavesBy Image bytes (stop_at (length bytes) miss)
    image_by bytes misses.Text h = at_here true Image bytes
        (text_here (IsChainItem p (codes "f") (number ∷ []) range kind) (λ _. N) (lines_of bytes) image_some.0 image_some.1 (no_chain_here p (codes "f") (number ∷ []) range kind bytes h))
    image_by bytes misses.Cell h = at_here false Image bytes (other_image bytes h)
    image_by bytes misses.NoMemory h = tt

    fillings_by : (bytes : List ℕ) (stop : Stop) → StopsInValue p number value numbers wanted bytes stop → LeavesBy CellLines bytes stop
    fillings_by bytes (stops.At left law) s =
        leaves_step CellLines Fillings bytes s.behind left law (λ b x. vertex_step b bytes s.vertex s.behind left s.first x)
        (run_leaves p (codes "g") (Some number) value numbers wanted s.behind Image left refl image_some.0 image_some.1 law s.here)
    fillings_by bytes stops.NoMemory s = tt

    -- lines of a cell that stop
    pub cell_leaves : (bytes : List ℕ) (stop : Stop) → CellStops p number value numbers wanted range kind bytes stop → LeavesBy CellLines bytes stop
    cell_leaves bytes stop = ⊎_elim
        (λ s. subst (LeavesBy CellLines bytes) (sym s.stop_is) (vertex_by bytes s.miss s.here))
        (⊎_elim (λ s. fillings_by bytes stop s)
        (λ s. subst (LeavesBy CellLines bytes) (sym s.stop_is)
        (by_step CellLines Image bytes s.last (stop_at (length s.last) s.miss) (λ b left x. value_step b bytes s.vertex s.contraction s.last left s.before x)
        (image_by s.last s.miss s.here))))
