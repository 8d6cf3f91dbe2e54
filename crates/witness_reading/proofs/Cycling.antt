-- The lines of cycles as a form: any number of them, and then what does not begin like one.
use Rattle.std.proofs.Common.{◌≡◌, ℕ, ◌+◌, ◌≤◌, refl, sym, ap, ◌∙◌, arith, List, [], ◌∷◌, ◌++◌, get_or, subst}
use Rattle.std.specs.Prelude.{codes}
use Rattle.witness_laws.specs.Lines.{chain_line}
use Rattle.witness_laws.specs.Parts.{AreTerms}
use Rattle.witness_laws.proofs.Telling.{lines_tell_their_parts}
use Rattle.witness_runs.specs.Cycles.{AreCycles, last_degree}
use Rattle.witness_reading.proofs.Forms.{Item, texts, Names, Reads, reads_none, reads_both}
use Rattle.witness_reading.proofs.Faults.{BeginAlike}
use Rattle.witness_reading.proofs.Stops.{StopsText, StopsCell}
use Rattle.witness_reading.proofs.Shapes.{chain_item}

abbrev pub cycle_item : List ℕ → ℕ × List (ℕ × ℕ) → Item
cycle_item kinds c = chain_item (codes "z") (c.0 ∷ []) kinds (c.0 + 1) c.1

abbrev pub cycle_items : List ℕ → List (ℕ × List (ℕ × ℕ)) → List Item
cycle_items kinds [] = []
cycle_items kinds (c ∷ cs) = cycle_item kinds c ∷ cycle_items kinds cs

-- cycles of degrees from low on, which never fall, and behind them what K says of them
pub record Cycles (p top : ℕ) (kinds : List ℕ) (low : ℕ) (K : List (ℕ × List (ℕ × ℕ)) → List Item → Type 0) (zs : List Item) : Type 0 where
  pub cycles : List (ℕ × List (ℕ × ℕ))
  pub rest : List Item
  pub are : AreCycles p low top cycles
  pub is : zs ≡ cycle_items kinds cycles ++ rest
  pub allowed : K cycles rest

-- the first line begins like that of a cycle
abbrev pub FirstIsZ : List (List ℕ) → Type 0
FirstIsZ [] = ⊥
FirstIsZ (t ∷ ts) = get_or t 0 0 ≡ 122

-- no list that K allows begins so
abbrev pub IsOver : (List (ℕ × List (ℕ × ℕ)) → List Item → Type 0) → Type 0
IsOver K = (cs : List (ℕ × List (ℕ × ℕ))) (ys : List Item) → K cs ys → FirstIsZ (texts ys) → ⊥

low_high : (p low high : ℕ) (zs : List (ℕ × List (ℕ × ℕ))) → AreCycles p low high zs → low ≤ high
low_high p low high [] h = h
low_high p low high (z ∷ zs) h = let a = h.0 in let b = low_high p z.0 high zs h.2 in omega arith

-- a line tells its cycle
told_cycle : (c d : ℕ × List (ℕ × ℕ)) → chain_line (codes "z") (c.0 ∷ []) c.1 ≡ chain_line (codes "z") (d.0 ∷ []) d.1 → ◌≡◌ {A = ℕ × List (ℕ × ℕ)} c d
told_cycle c d e =
    let w = lines_tell_their_parts.chain (codes "z") (c.0 ∷ []) (d.0 ∷ []) c.1 d.1 e in
    ap (λ (k : ℕ). (k, c.1)) (ap (λ l. get_or l 0 0) w.0) ∙ ap (λ (t : List (ℕ × ℕ)). (d.0, t)) w.1

module _ (p top : ℕ) (kinds : List ℕ) where
  -- ---- one cycle

  module _ (low : ℕ) (K : List (ℕ × List (ℕ × ℕ)) → List Item → Type 0) (c : ℕ × List (ℕ × ℕ)) where
    abbrev pub Further : List Item → Type 0
    Further = Cycles p top kinds c.0 (λ ds. K (c ∷ ds))

    step_goes : IsOver K → (cs : List (ℕ × List (ℕ × ℕ))) (rest zs : List Item) (more : List (List ℕ)) → AreCycles p low top cs → zs ≡ cycle_items kinds cs ++ rest → K cs rest
        → texts zs ≡ chain_line (codes "z") (c.0 ∷ []) c.1 ∷ more → (ys : List Item) × (zs ≡ cycle_item kinds c ∷ ys) × Further ys
    step_goes o [] rest zs more a s k e = absurd (o [] rest k (subst FirstIsZ (sym e ∙ ap texts s) refl))
    step_goes o (d ∷ ds) rest zs more a s k e =
        let q : ◌≡◌ {A = ℕ × List (ℕ × ℕ)} d c = told_cycle d c (ap (λ l. get_or l 0 []) (sym (ap texts s) ∙ e)) in
        let ys : List Item = cycle_items kinds ds ++ rest in (
          ys,
          s ∙ ap (λ (x : ℕ × List (ℕ × ℕ)). cycle_item kinds x ∷ ys) q,
          record {
            cycles = ds;
            rest = rest;
            are = subst (λ (x : ℕ × List (ℕ × ℕ)). AreCycles p x.0 top ds) q a.2;
            is = refl;
            allowed = subst (λ (x : ℕ × List (ℕ × ℕ)). K (x ∷ ds) rest) q k;
          },
        )

    pub reads_cycle : IsOver K → low ≤ c.0 → AreTerms p 0 c.1 → Reads (Cycles p top kinds low K) (cycle_item kinds c ∷ []) Further
    reads_cycle o l t = record {
      sound = λ ys m. record {
        cycles = c ∷ m.cycles;
        rest = m.rest;
        are = (l, t, m.are);
        is = ap (λ (x : List Item). cycle_item kinds c ∷ x) m.is;
        allowed = m.allowed;
      };
      goes = λ zs more m e. step_goes o m.cycles m.rest zs more m.are m.is m.allowed e;
    }

    -- it names other cells
    pub cell_cycle : IsOver K → low ≤ c.0 → AreTerms p 0 c.1 → (filled : List Item) → Further filled → (rest : List (List ℕ)) → (Names (cycle_item kinds c) → ⊥)
        → StopsCell (Cycles p top kinds low K) (chain_line (codes "z") (c.0 ∷ []) c.1 ∷ rest) 0
    cell_cycle o l t filled a rest f =
        let r = reads_cycle o l t in
        record {
          xs = [];
          many = refl;
          line = cycle_item kinds c;
          rest = rest;
          split = refl;
          names = tt;
          other = f;
          goes = λ zs more m e. (zs, refl);
          next = λ zs more m e. let w = r.goes zs more m e in (w.0, w.1);
          filled = filled;
          allowed = r.sound filled a;
        }

  -- ---- cycles that were read

  pub reads_cycles : (low high : ℕ) (K : List (ℕ × List (ℕ × ℕ)) → List Item → Type 0) (cs : List (ℕ × List (ℕ × ℕ))) → IsOver K → AreCycles p low high cs
      → Reads (Cycles p top kinds low K) (cycle_items kinds cs) (Cycles p top kinds (last_degree low cs) (λ ds. K (cs ++ ds)))
  reads_cycles low high K [] o a = reads_none (Cycles p top kinds low K)
  reads_cycles low high K (c ∷ cs) o a =
      reads_both (Cycles p top kinds low K) (cycle_item kinds c ∷ []) (Cycles p top kinds c.0 (λ ds. K (c ∷ ds))) (cycle_items kinds cs)
      (Cycles p top kinds (last_degree c.0 cs) (λ ds. K (c ∷ (cs ++ ds))))
      (reads_cycle low K c o a.0 a.1) (reads_cycles c.0 high (λ ds. K (c ∷ ds)) cs (λ ds ys k z. o (c ∷ ds) ys k z) a.2)

  -- ---- behind the cycles

  module _ (low : ℕ) (K : List (ℕ × List (ℕ × ℕ)) → List Item → Type 0) (below : low ≤ top) (ts : List (List ℕ)) where
    -- a list of the form that begins with lines of these texts has no further cycle
    leave_goes : (FirstIsZ ts → ⊥) → (xs : List Item) (rest : List (List ℕ)) → ts ≡ texts xs ++ rest
        → ((zs : List Item) (more : List (List ℕ)) → K [] zs → texts zs ≡ texts xs ++ more → (ys : List Item) × (zs ≡ xs ++ ys))
        → (cs : List (ℕ × List (ℕ × ℕ))) (last zs : List Item) (more : List (List ℕ)) → zs ≡ cycle_items kinds cs ++ last → K cs last → texts zs ≡ texts xs ++ more
        → (ys : List Item) × (zs ≡ xs ++ ys)
    leave_goes z [] rest s g cs last zs more i k e = (zs, refl)
    leave_goes z (x ∷ xs) rest s g [] last zs more i k e = g zs more (subst (K []) (sym i) k) e
    leave_goes z (x ∷ xs) rest s g (c ∷ cs) last zs more i k e =
        let q : chain_line (codes "z") (c.0 ∷ []) c.1 ≡ x.text = ap (λ l. get_or l 0 []) (sym (ap texts i) ∙ e) in
        absurd (z (subst FirstIsZ (sym s) (ap (λ t. get_or t 0 0) (sym q))))

    leave_refused : (FirstIsZ ts → ⊥) → (xs : List Item) (rest : List (List ℕ)) → ts ≡ texts xs ++ rest
        → ((zs : List Item) (more : List (List ℕ)) → K [] zs → texts zs ≡ texts xs ++ more → BeginAlike more rest → ⊥)
        → (cs : List (ℕ × List (ℕ × ℕ))) (last zs : List Item) (more : List (List ℕ)) → zs ≡ cycle_items kinds cs ++ last → K cs last → texts zs ≡ texts xs ++ more
        → BeginAlike more rest → ⊥
    leave_refused z xs rest s g [] last zs more i k e h = g zs more (subst (K []) (sym i) k) e h
    leave_refused z [] rest s g (c ∷ cs) last zs more i k e h =
        z (subst FirstIsZ (sym s) (alike_z (chain_line (codes "z") (c.0 ∷ []) c.1) (texts (cycle_items kinds cs ++ last)) rest refl
        (subst (λ (t : List (List ℕ)). BeginAlike t rest) (sym e ∙ ap texts i) h)))
      where
        alike_z : (t : List ℕ) (us vs : List (List ℕ)) → get_or t 0 0 ≡ 122 → BeginAlike (t ∷ us) vs → FirstIsZ vs
        alike_z t us [] b a = a
        alike_z t us (v ∷ vs) b a = ap (λ x. get_or x 0 0) (sym a) ∙ b
    leave_refused z (x ∷ xs) rest s g (c ∷ cs) last zs more i k e h =
        let q : chain_line (codes "z") (c.0 ∷ []) c.1 ≡ x.text = ap (λ l. get_or l 0 []) (sym (ap texts i) ∙ e) in
        z (subst FirstIsZ (sym s) (ap (λ t. get_or t 0 0) (sym q)))

    pub text_leave : (k : ℕ) → (FirstIsZ ts → ⊥) → StopsText (K []) ts k → StopsText (Cycles p top kinds low K) ts k
    text_leave k z s = record {
      xs = s.xs;
      many = s.many;
      rest = s.rest;
      split = s.split;
      names = s.names;
      goes = λ zs more m e. leave_goes z s.xs s.rest s.split s.goes m.cycles m.rest zs more m.is m.allowed e;
      filled = s.filled;
      allowed = record { cycles = []; rest = s.xs ++ s.filled; are = below; is = refl; allowed = s.allowed };
      refused = λ zs more m e h. leave_refused z s.xs s.rest s.split s.refused m.cycles m.rest zs more m.is m.allowed e h;
    }

    cell_next : (FirstIsZ ts → ⊥) → (xs : List Item) (line : Item) (rest : List (List ℕ)) → ts ≡ texts xs ++ (line.text ∷ rest)
        → ((zs : List Item) (more : List (List ℕ)) → K [] zs → texts zs ≡ texts xs ++ (line.text ∷ more) → (ys : List Item) × (zs ≡ xs ++ (line ∷ ys)))
        → (cs : List (ℕ × List (ℕ × ℕ))) (last zs : List Item) (more : List (List ℕ)) → zs ≡ cycle_items kinds cs ++ last → K cs last → texts zs ≡ texts xs ++ (line.text ∷ more)
        → (ys : List Item) × (zs ≡ xs ++ (line ∷ ys))
    cell_next z xs line rest s g [] last zs more i k e = g zs more (subst (K []) (sym i) k) e
    cell_next z [] line rest s g (c ∷ cs) last zs more i k e =
        let q : chain_line (codes "z") (c.0 ∷ []) c.1 ≡ line.text = ap (λ l. get_or l 0 []) (sym (ap texts i) ∙ e) in
        absurd (z (subst FirstIsZ (sym s) (ap (λ t. get_or t 0 0) (sym q))))
    cell_next z (x ∷ xs) line rest s g (c ∷ cs) last zs more i k e =
        let q : chain_line (codes "z") (c.0 ∷ []) c.1 ≡ x.text = ap (λ l. get_or l 0 []) (sym (ap texts i) ∙ e) in
        absurd (z (subst FirstIsZ (sym s) (ap (λ t. get_or t 0 0) (sym q))))

    pub cell_leave : (k : ℕ) → (FirstIsZ ts → ⊥) → StopsCell (K []) ts k → StopsCell (Cycles p top kinds low K) ts k
    cell_leave k z s = record {
      xs = s.xs;
      many = s.many;
      line = s.line;
      rest = s.rest;
      split = s.split;
      names = s.names;
      other = s.other;
      goes = λ zs more m e. leave_goes z s.xs (s.line.text ∷ s.rest) s.split s.goes m.cycles m.rest zs more m.is m.allowed e;
      next = λ zs more m e. cell_next z s.xs s.line s.rest s.split s.next m.cycles m.rest zs more m.is m.allowed e;
      filled = s.filled;
      allowed = record { cycles = []; rest = s.xs ++ (s.line ∷ s.filled); are = below; is = refl; allowed = s.allowed };
    }
