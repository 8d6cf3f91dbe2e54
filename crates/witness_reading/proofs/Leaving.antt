-- Where the bytes leave runs and cycles, by the law that fails.
use Rattle.std.proofs.Common.{◌≡◌, ℕ, ◌≤◌, refl, sym, ap, ◌∙◌, arith, ⊎_elim, List, [], ◌∷◌, ◌++◌, length, get_or, Bool, true, false, cond, subst, Option}
use Rattle.std.proofs.lemmas.Bool.{cases_Bool}
use Rattle.std.specs.Prelude.{codes, ◌==◌}
use Rattle.witness_laws.specs.declared.law.Law.{Law}
use Rattle.witness_laws.specs.declared.law.Law.TheVariants as laws
use Rattle.witness_laws.specs.Lines.{chain_line, lines_of, lines_behind, no_feed}
use Rattle.witness_laws.proofs.Texts.{texts_have_their_lines}
use Rattle.witness_runs.specs.declared.miss.Miss.TheVariants as misses
use Rattle.witness_scanning.specs.Lines.{HasNoCycleLine}
use Rattle.witness_runs.specs.Due.{IsOtherCycle}
use Rattle.witness_runs.specs.Runs.{StopsWith}
use Rattle.witness_runs.specs.Cycles.{BeginsWithZ, cycles_text, AreCycles, last_degree, StopsCyclesWith, StopsAt as CyclesStopAt}
use Rattle.witness_reading.proofs.Forms.{Item, texts, Run}
use Rattle.witness_reading.proofs.Faults.{BeginAlike}
use Rattle.witness_reading.proofs.Stops.{StopsText, StopsCell, BeginsWith}
use Rattle.witness_reading.proofs.Shapes.{in_front}
use Rattle.witness_reading.proofs.Runs.{one_chain, heads, IsRunItem}
use Rattle.witness_reading.proofs.Cycling.{cycle_items, Cycles, FirstIsZ, IsOver, reads_cycles, cell_cycle}
use Rattle.witness_reading.proofs.Places.{StopsAt, at_here, at_behind, run_text_at, run_cell_at, cycles_lines, cycles_names}

-- the bytes leave the form where so many are left, by a law of the first pass
abbrev pub Leaves : (List Item → Type 0) → List ℕ → ℕ → Law → Type 0
Leaves L bytes left laws.Text = StopsAt true L bytes left
Leaves L bytes left laws.Cell = StopsAt false L bytes left
Leaves L bytes left law = ⊥

-- what holds of both laws
pub leaves_step : (L M : List Item → Type 0) (bytes rest : List ℕ) (left : ℕ) (law : Law) → ((b : Bool) → StopsAt b M rest left → StopsAt b L bytes left) → Leaves M rest left law
    → Leaves L bytes left law
leaves_step L M bytes rest left laws.Text f s = f true s
leaves_step L M bytes rest left laws.Cell f s = f false s
leaves_step L M bytes rest left laws.Header f s = s
leaves_step L M bytes rest left laws.Cycle f s = s
leaves_step L M bytes rest left laws.Dual f s = s
leaves_step L M bytes rest left laws.Cocycle f s = s
leaves_step L M bytes rest left laws.Contraction f s = s
leaves_step L M bytes rest left laws.ValueContraction f s = s
leaves_step L M bytes rest left laws.Carried f s = s
leaves_step L M bytes rest left laws.Augmentation f s = s
leaves_step L M bytes rest left laws.Commutes f s = s
leaves_step L M bytes rest left laws.Matrix f s = s

module _ (p : ℕ) (word : List ℕ) (first : Option ℕ) (kinds ns ws bytes : List ℕ) (N : List Item → Type 0) (left : ℕ) (o : no_feed word ≡ true) (ys : List Item) (m : N ys) where
  abbrev InRun : List Item → Type 0
  InRun = Run (IsRunItem p word first kinds) (heads ns ws) (λ _. N)

  pub run_leaves : (law : Law) → StopsWith p word first ns kinds ws bytes left law → Leaves InRun bytes left law
  run_leaves laws.Text s = run_text_at p word first kinds ns ws bytes N left o ys m s
  run_leaves laws.Cell s = run_cell_at p word first kinds ns ws bytes N left o ys m s
  run_leaves laws.Header s = s
  run_leaves laws.Cycle s = s
  run_leaves laws.Dual s = s
  run_leaves laws.Cocycle s = s
  run_leaves laws.Contraction s = s
  run_leaves laws.ValueContraction s = s
  run_leaves laws.Carried s = s
  run_leaves laws.Augmentation s = s
  run_leaves laws.Commutes s = s
  run_leaves laws.Matrix s = s

-- ---- cycles

z_line : (cs line : List ℕ) → FirstIsZ (lines_behind cs (122 ∷ line))
z_line [] line = refl
z_line (c ∷ cs) line = ⊎_elim
    (λ e. subst (λ (b : Bool). FirstIsZ (cond b ((122 ∷ (line ++ c ∷ [])) ∷ lines_behind cs []) (lines_behind cs (122 ∷ (line ++ c ∷ []))))) (sym e) refl)
    (λ e. subst (λ (b : Bool). FirstIsZ (cond b ((122 ∷ (line ++ c ∷ [])) ∷ lines_behind cs []) (lines_behind cs (122 ∷ (line ++ c ∷ []))))) (sym e) (z_line cs (line ++ c ∷ [])))
    (cases_Bool (c == 10))

pub z_first : (bytes : List ℕ) → BeginsWithZ bytes → FirstIsZ (lines_of bytes)
z_first [] z = absurd z
z_first (c ∷ cs) z = subst (λ (b : ℕ). FirstIsZ (lines_of (b ∷ cs))) (sym z) (z_line cs [])

alike_z : (ts us : List (List ℕ)) → BeginAlike ts us → FirstIsZ us → FirstIsZ ts
alike_z [] [] a z = z
alike_z [] (u ∷ us) a z = absurd a
alike_z (t ∷ ts) [] a z = absurd a
alike_z (t ∷ ts) (u ∷ us) a z = ap (λ x. get_or x 0 0) a ∙ z

first_alike : (t : List ℕ) (ts rest : List (List ℕ)) → BeginAlike (t ∷ ts) rest → BeginsWith t rest
first_alike t ts [] h = absurd h
first_alike t ts (u ∷ us) h = h

module _ (p top : ℕ) (kinds : List ℕ) where
  module _ (low : ℕ) (K : List (ℕ × List (ℕ × ℕ)) → List Item → Type 0) (over : IsOver K) (rest : List ℕ) where
    refuses : BeginsWithZ rest → HasNoCycleLine low top p rest → (cs : List (ℕ × List (ℕ × ℕ))) (last zs : List Item) (more : List (List ℕ)) → AreCycles p low top cs
        → zs ≡ cycle_items kinds cs ++ last → K cs last → texts zs ≡ more → BeginAlike more (lines_of rest) → ⊥
    refuses z n [] last zs more a i k e h = over [] last k (subst FirstIsZ (sym e ∙ ap texts i) (alike_z more (lines_of rest) h (z_first rest z)))
    refuses z n (c ∷ cs) last zs more a i k e h =
        let t : List ℕ = chain_line (codes "z") (c.0 ∷ []) c.1 in
        let g : BeginsWith t (lines_of rest) = first_alike t (texts (cycle_items kinds cs ++ last)) (lines_of rest)
        (subst (λ (l : List (List ℕ)). BeginAlike l (lines_of rest)) (sym e ∙ ap texts i) h) in
        let w = in_front rest t g in
        n c.0 a.0 (low_high c.0 top cs a.2) c.1 w.0 a.1 w.1
      where
        low_high : (from high : ℕ) (ds : List (ℕ × List (ℕ × ℕ))) → AreCycles p from high ds → from ≤ high
        low_high from high [] b = b
        low_high from high (d ∷ ds) b = let x = b.0 in let y = low_high d.0 high ds b.2 in omega arith

    no_cycle_here : BeginsWithZ rest → HasNoCycleLine low top p rest → (ys : List Item) → Cycles p top kinds low K ys → StopsText (Cycles p top kinds low K) (lines_of rest) 0
    no_cycle_here z n ys m = record {
      xs = [];
      many = refl;
      rest = lines_of rest;
      split = refl;
      names = tt;
      goes = λ zs more l e. (zs, refl);
      filled = ys;
      allowed = m;
      refused = λ zs more l e h. refuses z n l.cycles l.rest zs more l.are l.is l.allowed e h;
    }

    other_cycle_here : (fills : (cs : List (ℕ × List (ℕ × ℕ))) → (ys : List Item) × K cs ys) → IsOtherCycle p low top kinds rest → StopsCell (Cycles p top kinds low K) (lines_of rest) 0
    other_cycle_here fills h =
        let c : ℕ × List (ℕ × ℕ) = (h.degree, h.other.terms) in
        let f = fills (c ∷ []) in
        let t : List ℕ = chain_line (codes "z") (h.degree ∷ []) h.other.terms in
        subst (λ (l : List (List ℕ)). StopsCell (Cycles p top kinds low K) l 0)
        (sym (ap lines_of h.other.split ∙ texts_have_their_lines.first t h.other.rest (one_chain (codes "z") (h.degree ∷ []) h.other.terms refl)))
        (cell_cycle p top kinds low K c over h.above h.other.are f.0 (record { cycles = []; rest = f.0; are = h.below; is = refl; allowed = f.1 }) (lines_of h.other.rest) h.other.other)

  module _ (K : List (ℕ × List (ℕ × ℕ)) → List Item → Type 0) (over : IsOver K) (fills : (cs : List (ℕ × List (ℕ × ℕ))) → (ys : List Item) × K cs ys) (bytes : List ℕ) (left : ℕ) where
    further_text : (s : CyclesStopAt p top kinds bytes left misses.Text) → StopsAt true (Cycles p top kinds (last_degree 0 s.cycles) (λ ds. K (s.cycles ++ ds))) s.rest left
    further_text s =
        let more : List (ℕ × List (ℕ × ℕ)) → List Item → Type 0 = λ ds. K (s.cycles ++ ds) in
        let f = fills (s.cycles ++ []) in
        let e : s.low ≡ last_degree 0 s.cycles = s.has.last in
        let below : s.low ≤ top = s.has.below in
        subst (λ (n : ℕ). StopsAt true (Cycles p top kinds (last_degree 0 s.cycles) more) s.rest n) (sym s.left_is)
        (subst (λ (n : ℕ). StopsAt true (Cycles p top kinds n more) s.rest (length s.rest)) e
        (at_here true (Cycles p top kinds s.low more) s.rest
        (no_cycle_here s.low more (λ ds ys k z. over (s.cycles ++ ds) ys k z) s.rest s.begins s.here f.0
        (record { cycles = []; rest = f.0; are = below; is = refl; allowed = f.1 }))))

    further_cell : (s : CyclesStopAt p top kinds bytes left misses.Cell) → StopsAt false (Cycles p top kinds (last_degree 0 s.cycles) (λ ds. K (s.cycles ++ ds))) s.rest left
    further_cell s =
        let more : List (ℕ × List (ℕ × ℕ)) → List Item → Type 0 = λ ds. K (s.cycles ++ ds) in
        let e : s.low ≡ last_degree 0 s.cycles = s.has.last in
        subst (λ (n : ℕ). StopsAt false (Cycles p top kinds (last_degree 0 s.cycles) more) s.rest n) (sym s.left_is)
        (subst (λ (n : ℕ). StopsAt false (Cycles p top kinds n more) s.rest (length s.rest)) e
        (at_here false (Cycles p top kinds s.low more) s.rest
        (other_cycle_here s.low more (λ ds ys k z. over (s.cycles ++ ds) ys k z) s.rest (λ ds. fills (s.cycles ++ ds)) s.here)))

    pub cycles_leaves : (law : Law) → StopsCyclesWith p top kinds bytes left law → Leaves (Cycles p top kinds 0 K) bytes left law
    cycles_leaves laws.Text s =
        at_behind true (Cycles p top kinds 0 K) (cycle_items kinds s.cycles) (Cycles p top kinds (last_degree 0 s.cycles) (λ ds. K (s.cycles ++ ds))) bytes (cycles_text s.cycles) s.rest left
        s.has.split (ap lines_of s.has.split ∙ cycles_lines kinds s.cycles s.rest) (reads_cycles p top kinds 0 s.low K s.cycles over s.has.are)
        (cycles_names kinds s.cycles s.has.names) (further_text s)
    cycles_leaves laws.Cell s =
        at_behind false (Cycles p top kinds 0 K) (cycle_items kinds s.cycles) (Cycles p top kinds (last_degree 0 s.cycles) (λ ds. K (s.cycles ++ ds))) bytes (cycles_text s.cycles) s.rest left
        s.has.split (ap lines_of s.has.split ∙ cycles_lines kinds s.cycles s.rest) (reads_cycles p top kinds 0 s.low K s.cycles over s.has.are)
        (cycles_names kinds s.cycles s.has.names) (further_cell s)
    cycles_leaves laws.Header s = s
    cycles_leaves laws.Cycle s = s
    cycles_leaves laws.Dual s = s
    cycles_leaves laws.Cocycle s = s
    cycles_leaves laws.Contraction s = s
    cycles_leaves laws.ValueContraction s = s
    cycles_leaves laws.Carried s = s
    cycles_leaves laws.Augmentation s = s
    cycles_leaves laws.Commutes s = s
    cycles_leaves laws.Matrix s = s
