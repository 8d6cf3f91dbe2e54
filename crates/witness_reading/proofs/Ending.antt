-- Where the bytes leave the witness of a pair: in its section, or at its end.
use Rattle.std.proofs.Common.{◌≡◌, ℕ, refl, sym, ap, ◌∙◌, ⊎_elim, inl, inr, List, [], ◌∷◌, ◌++◌, length, get_or, arith, subst, true, false}
use Rattle.std.proofs.lemmas.Bool.{true≢false}
use Rattle.std.specs.Prelude.{codes, ◌==◌}
use Rattle.witness_laws.specs.declared.law.Law.{Law}
use Rattle.witness_laws.specs.declared.law.Law.TheVariants as laws
use Rattle.witness_laws.specs.Lines.{IsOneLine}
use Rattle.witness_laws.specs.Inputs.{Given}
use Rattle.witness_runs.specs.declared.miss.Stop.{Stop}
use Rattle.witness_runs.specs.declared.miss.Stop.TheVariants as stops
use Rattle.section_reading.specs.Section.{StopsSection}
use Rattle.witness_reading.specs.Kinds.{pair_table, pair_numbers, pair_wanted}
use Rattle.witness_reading.specs.Ends.{LacksEnd, GoesOn, StopsEnd, IfTold}
use Rattle.witness_reading.specs.Pairs.{HasDomain, StopsBehind, StopsWhole}
use Rattle.witness_reading.proofs.Forms.{Item}
use Rattle.witness_reading.proofs.Shapes.{word_item}
use Rattle.witness_reading.proofs.Cycling.{IsOver}
use Rattle.witness_reading.proofs.Places.{StopsAt}
use Rattle.witness_reading.proofs.Leaving.{Leaves}
use Rattle.witness_reading.proofs.Sections.{section_step}
use Rattle.witness_reading.proofs.Parting.{LeavesBy, by_step, section_leaves}
use Rattle.witness_reading.proofs.PairForm.{End, PairForm}
use Rattle.witness_reading.proofs.PairFaults.{no_end, behind_end}

abbrev pub left_of : Stop → ℕ
left_of (stops.At left law) = left
left_of stops.NoMemory = 0

abbrev pub law_of : Stop → Law
law_of (stops.At left law) = law
law_of stops.NoMemory = laws.Text

-- a stop by the law on texts, told in other words
told_text : (L : List Item → Type 0) (bytes : List ℕ) (n left : ℕ) (law : Law) → stops.At left law ≡ stops.At n laws.Text → StopsAt true L bytes n → Leaves L bytes left law
told_text L bytes n left law e s =
    let a : left ≡ n = ap left_of e in
    let b : law ≡ laws.Text = ap law_of e in
    subst (λ (m : ℕ). Leaves L bytes m law) (sym a) (subst (λ (w : Law). Leaves L bytes n w) (sym b) s)

-- the end
pub end_leaves : (bytes : List ℕ) (stop : Stop) → StopsEnd bytes stop → LeavesBy End bytes stop
end_leaves bytes (stops.At left law) = ⊎_elim
    (λ (s : LacksEnd bytes (stops.At left law)). told_text End bytes (length bytes) left law s.left_is (no_end bytes s.here))
    (λ (s : GoesOn bytes (stops.At left law)). told_text End bytes (length (s.first ∷ s.more)) left law s.left_is (behind_end bytes s.first s.more s.split))
end_leaves bytes stops.NoMemory = λ s. tt

-- what stands behind it is some
pub goes_on : (bytes behind : List ℕ) → bytes ≡ codes "end\n" ++ behind → (length behind == 0) ≡ false → StopsEnd bytes (stops.At (length behind) laws.Text)
goes_on bytes [] e h = absurd (true≢false h)
goes_on bytes (c ∷ cs) e h = inr (record { first = c; more = cs; split = e; left_is = refl })

-- the end does not begin like a cycle, and there is one
pub end_over : IsOver (λ cs. End)
end_over cs [] k z = k
end_over cs (y ∷ ys) k z = let e : ◌≡◌ {A = ℕ} 101 122 = ap (λ (x : Item). get_or x.text 0 0) (sym k.0) ∙ z in absurd (omega arith)

pub end_fills : (cs : List (ℕ × List (ℕ × ℕ))) → (ys : List Item) × End ys
end_fills cs = (word_item (codes "end\n") ∷ [], (refl, tt))

pub domain_line : IsOneLine (codes "pair domain\n")
domain_line = record { before = codes "pair domain"; none = refl; ends = refl }

-- the section and the end
module _ (p : ℕ) (G : Given) (bytes : List ℕ) where
  abbrev table : List ℕ
  table = pair_table G.x G.a

  abbrev numbers : List ℕ
  numbers = pair_numbers G.x G.a

  abbrev wanted : List ℕ
  wanted = pair_wanted G.x G.a

  behind : (stop : Stop) → StopsBehind p G bytes stop → LeavesBy (PairForm p G) bytes stop
  behind stop s =
      by_step (PairForm p G) End bytes s.rest stop
      (λ b left h. section_step p G.top table numbers wanted (λ cs. End) end_over end_fills b (codes "pair domain\n") bytes s.cycles s.cocycles s.homotopy s.rest left domain_line s.section h)
      (end_leaves s.rest stop s.here)

  pub whole_leaves : (stop : Stop) → IfTold (StopsWhole p G bytes) stop → LeavesBy (PairForm p G) bytes stop
  whole_leaves (stops.At left law) = ⊎_elim
      (section_leaves p G.top table numbers wanted (λ cs. End) end_over end_fills (codes "pair domain\n") bytes (stops.At left law) domain_line)
      (behind (stops.At left law))
  whole_leaves stops.NoMemory = λ s. tt

-- a stop in the section, and one at the end
pub section_stops : (p : ℕ) (G : Given) (bytes : List ℕ) (stop : Stop) → IfTold (StopsSection p (codes "pair domain\n") G.top (pair_table G.x G.a) (pair_numbers G.x G.a) (pair_wanted G.x G.a) bytes) stop
    → IfTold (StopsWhole p G bytes) stop
section_stops p G bytes (stops.At left law) s = inl s
section_stops p G bytes stops.NoMemory s = tt

pub end_stops : (p : ℕ) (G : Given) (bytes : List ℕ) (stop : Stop) (cycles : List (ℕ × List (ℕ × ℕ))) (cocycles homotopy : List (List (ℕ × ℕ))) (rest : List ℕ)
    → HasDomain p G bytes cycles cocycles homotopy rest → StopsEnd rest stop → IfTold (StopsWhole p G bytes) stop
end_stops p G bytes (stops.At left law) cycles cocycles homotopy rest h s =
    inr (record { cycles = cycles; cocycles = cocycles; homotopy = homotopy; rest = rest; section = h; here = s })
end_stops p G bytes stops.NoMemory cycles cocycles homotopy rest h s = tt
