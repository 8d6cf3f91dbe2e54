-- Where the bytes of a text leave a form: how many are left, and which line that is.
use Rattle.std.proofs.Common.{◌≡◌, ℕ, ◌+◌, ◌≤◌, refl, sym, ap, ◌∙◌, arith, List, [], ◌∷◌, ◌++◌, length, get_or, Bool, true, false, append_assoc, subst, Option}
use Rattle.std.proofs.lemmas.List.{length-append, length-map, append-nil}
use Rattle.std.specs.Prelude.{codes}
use Rattle.witness_laws.specs.Lines.{chain_line, lines_of, no_feed}
use Rattle.witness_runs.specs.declared.miss.Miss.TheVariants as misses
use Rattle.witness_runs.specs.Runs.{run_text, HasRun, NameKinds, StopsAt as RunStopsAt}
use Rattle.witness_runs.specs.Cycles.{BeginsWithZ, cycles_text, NameDegrees, last_degree, AreCyclesAt}
use Rattle.witness_reading.proofs.Forms.{Item, texts, Reads, Run}
use Rattle.witness_reading.proofs.Stops.{AllNames, StopsText, StopsCell, text_behind, cell_behind, BeginsWith}
use Rattle.witness_reading.proofs.Shapes.{in_front}
use Rattle.witness_reading.proofs.Runs.{one_chain, first_line, heads, IsRunItem}
use Rattle.witness_reading.proofs.Running.{items, run_all, run_split, run_count, run_whole, run_stops_text, run_stops_cell}
use Rattle.witness_reading.proofs.Cycling.{cycle_items, Cycles, FirstIsZ, IsOver, reads_cycles, text_leave, cell_leave}

-- a line that may not stand there, or one that names other cells
abbrev pub Stops : Bool → (List Item → Type 0) → List (List ℕ) → ℕ → Type 0
Stops true L ts k = StopsText L ts k
Stops false L ts k = StopsCell L ts k

stops_behind : (b : Bool) (L : List Item → Type 0) (xs : List Item) (M : List Item → Type 0) (ts : List (List ℕ)) (k : ℕ) → Reads L xs M → AllNames xs → Stops b M ts k
    → Stops b L (texts xs ++ ts) (length xs + k)
stops_behind true L xs M ts k r n s = text_behind L xs M r ts k n s
stops_behind false L xs M ts k r n s = cell_behind L xs M r ts k n s

stops_leave : (b : Bool) (p top : ℕ) (kinds : List ℕ) (low : ℕ) (K : List (ℕ × List (ℕ × ℕ)) → List Item → Type 0) (ts : List (List ℕ)) (k : ℕ) → low ≤ top → (FirstIsZ ts → ⊥)
    → Stops b (K []) ts k → Stops b (Cycles p top kinds low K) ts k
stops_leave true p top kinds low K ts k l z s = text_leave p top kinds low K l ts k z s
stops_leave false p top kinds low K ts k l z s = cell_leave p top kinds low K l ts k z s

-- the bytes leave the form where so many are left
pub record StopsAt (b : Bool) (L : List Item → Type 0) (bytes : List ℕ) (left : ℕ) : Type 0 where
  pub line : ℕ
  pub stop : Stops b L (lines_of bytes) line
  pub front : List ℕ
  pub here : List ℕ
  pub split : bytes ≡ front ++ here
  pub left_is : left ≡ length here
  pub count : length (lines_of bytes) ≡ line + length (lines_of here)

-- at the first line
pub at_here : (b : Bool) (L : List Item → Type 0) (bytes : List ℕ) → Stops b L (lines_of bytes) 0 → StopsAt b L bytes (length bytes)
at_here b L bytes s = record { line = 0; stop = s; front = []; here = bytes; split = refl; left_is = refl; count = omega arith }

-- behind lines that were read
pub at_behind : (b : Bool) (L : List Item → Type 0) (xs : List Item) (M : List Item → Type 0) (bytes front rest : List ℕ) (left : ℕ) → bytes ≡ front ++ rest
    → lines_of bytes ≡ texts xs ++ lines_of rest → Reads L xs M → AllNames xs → StopsAt b M rest left → StopsAt b L bytes left
at_behind b L xs M bytes front rest left e f r n s = record {
  line = length xs + s.line;
  stop = subst (λ (l : List (List ℕ)). Stops b L l (length xs + s.line)) (sym f) (stops_behind b L xs M (lines_of rest) s.line r n s.stop);
  front = front ++ s.front;
  here = s.here;
  split = e ∙ ap (λ t. front ++ t) s.split ∙ sym (append_assoc front s.front s.here);
  left_is = s.left_is;
  count =
      let a : length (lines_of bytes) ≡ length (texts xs) + length (lines_of rest) = ap length f ∙ length-append (texts xs) (lines_of rest) in
      let c = length-map xs (λ (z : Item). z.text) in
      let d = s.count in omega arith;
}

-- ---- runs

-- behind a run that was read
pub run_step : (b : Bool) (p : ℕ) (word : List ℕ) (first : Option ℕ) (kinds ns ws bytes : List ℕ) (N : List Item → Type 0) (cs : List (List (ℕ × ℕ))) (rest : List ℕ) (left : ℕ)
    → no_feed word ≡ true → HasRun p word first ns (length ns) bytes cs rest → NameKinds kinds ws cs (length ns) → StopsAt b N rest left
    → StopsAt b (Run (IsRunItem p word first kinds) (heads ns ws) (λ _. N)) bytes left
run_step b p word first kinds ns ws bytes N cs rest left o run names s =
    let K : List Item → List Item → Type 0 = λ _. N in
    let l : length ns ≤ length ns = omega arith in
    at_behind b (Run (IsRunItem p word first kinds) (heads ns ws) K) (items p word first kinds ns ws bytes K o (length ns) cs rest run l) N bytes (run_text word first ns cs) rest left
    run.split (run_split p word first kinds ns ws bytes K o (length ns) cs rest run l) (run_whole p word first kinds ns ws bytes K o (length ns) cs rest run l refl)
    (run_all p word first kinds ns ws bytes K o (length ns) cs rest run l names) s

-- in a run
pub run_text_at : (p : ℕ) (word : List ℕ) (first : Option ℕ) (kinds ns ws bytes : List ℕ) (N : List Item → Type 0) (left : ℕ) → no_feed word ≡ true → (ys : List Item) → N ys
    → RunStopsAt p word first ns kinds ws bytes left misses.Text → StopsAt true (Run (IsRunItem p word first kinds) (heads ns ws) (λ _. N)) bytes left
run_text_at p word first kinds ns ws bytes N left o ys m s =
    let K : List Item → List Item → Type 0 = λ _. N in
    let l : s.line ≤ length ns = let a = s.within in omega arith in
    record {
      line = s.line;
      stop = run_stops_text p word first kinds ns ws bytes K o s.line s.chains s.rest s.run l s.within (λ xs. (ys, m)) s.names s.here;
      front = run_text word first ns s.chains;
      here = s.rest;
      split = s.run.split;
      left_is = s.left_is;
      count = run_count p word first kinds ns ws bytes K o s.line s.chains s.rest s.run l;
    }

pub run_cell_at : (p : ℕ) (word : List ℕ) (first : Option ℕ) (kinds ns ws bytes : List ℕ) (N : List Item → Type 0) (left : ℕ) → no_feed word ≡ true → (ys : List Item) → N ys
    → RunStopsAt p word first ns kinds ws bytes left misses.Cell → StopsAt false (Run (IsRunItem p word first kinds) (heads ns ws) (λ _. N)) bytes left
run_cell_at p word first kinds ns ws bytes N left o ys m s =
    let K : List Item → List Item → Type 0 = λ _. N in
    let l : s.line ≤ length ns = let a = s.within in omega arith in
    record {
      line = s.line;
      stop = run_stops_cell p word first kinds ns ws bytes K o s.line s.chains s.rest s.run l s.within (λ xs. (ys, m)) s.names s.here;
      front = run_text word first ns s.chains;
      here = s.rest;
      split = s.run.split;
      left_is = s.left_is;
      count = run_count p word first kinds ns ws bytes K o s.line s.chains s.rest s.run l;
    }

-- ---- cycles

pub cycles_lines : (kinds : List ℕ) (cs : List (ℕ × List (ℕ × ℕ))) (rest : List ℕ) → lines_of (cycles_text cs ++ rest) ≡ texts (cycle_items kinds cs) ++ lines_of rest
cycles_lines kinds [] rest = refl
cycles_lines kinds (c ∷ cs) rest =
    let t : List ℕ = chain_line (codes "z") (c.0 ∷ []) c.1 in
    first_line t (cycles_text cs) rest (one_chain (codes "z") (c.0 ∷ []) c.1 refl) ∙ ap (λ l. t ∷ l) (cycles_lines kinds cs rest)

pub cycles_names : (kinds : List ℕ) (cs : List (ℕ × List (ℕ × ℕ))) → NameDegrees kinds cs → AllNames (cycle_items kinds cs)
cycles_names kinds [] h = tt
cycles_names kinds (c ∷ cs) h = (h.0, cycles_names kinds cs h.1)

-- the first line begins as the bytes do
pub begins_z : (bytes : List ℕ) → FirstIsZ (lines_of bytes) → BeginsWithZ bytes
begins_z bytes h = by (lines_of bytes) refl h
  where
    by_line : (u rest : List ℕ) → bytes ≡ u ++ rest → get_or u 0 0 ≡ 122 → BeginsWithZ bytes
    by_line [] rest e z = absurd (omega arith)
    by_line (c ∷ u) rest e z = subst BeginsWithZ (sym e) z

    by : (ts : List (List ℕ)) → lines_of bytes ≡ ts → FirstIsZ ts → BeginsWithZ bytes
    by [] e z = absurd z
    by (u ∷ us) e z = let w = in_front bytes u (subst (BeginsWith u) (sym e) refl) in by_line u w.0 w.1 z

-- behind all cycles
pub cycles_step : (b : Bool) (p top : ℕ) (kinds bytes : List ℕ) (K : List (ℕ × List (ℕ × ℕ)) → List Item → Type 0) (cs : List (ℕ × List (ℕ × ℕ))) (rest : List ℕ) (left : ℕ) → IsOver K
    → AreCyclesAt p top kinds bytes cs rest → StopsAt b (K cs) rest left → StopsAt b (Cycles p top kinds 0 K) bytes left
cycles_step b p top kinds bytes K cs rest left o a s =
    let further : List (ℕ × List (ℕ × ℕ)) → List Item → Type 0 = λ ds. K (cs ++ ds) in
    let below : last_degree 0 cs ≤ top = let x = a.has.below in let y = a.has.last in omega arith in
    let t : StopsAt b (Cycles p top kinds (last_degree 0 cs) further) rest left = record {
      line = s.line;
      stop = stops_leave b p top kinds (last_degree 0 cs) further (lines_of rest) s.line below (λ z. a.over (begins_z rest z))
          (subst (λ (l : List (ℕ × List (ℕ × ℕ))). Stops b (K l) (lines_of rest) s.line) (sym (append-nil cs)) s.stop);
      front = s.front;
      here = s.here;
      split = s.split;
      left_is = s.left_is;
      count = s.count;
    } in
    at_behind b (Cycles p top kinds 0 K) (cycle_items kinds cs) (Cycles p top kinds (last_degree 0 cs) further) bytes (cycles_text cs) rest left
    a.has.split (ap lines_of a.has.split ∙ cycles_lines kinds cs rest) (reads_cycles p top kinds 0 a.low K cs o a.has.are) (cycles_names kinds cs a.has.names) t
