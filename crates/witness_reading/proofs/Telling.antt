-- What is told of the first failing line, from where the bytes leave a form.
use Rattle.std.proofs.Common.{◌≡◌, ℕ, ◌+◌, ◌-◌, ◌⊎◌, inl, inr, refl, ap, ◌∙◌, arith, List, [], ◌∷◌, ◌++◌, length, drop, subst}
use Rattle.std.proofs.lemmas.List.{length-append}
use Rattle.witness_laws.specs.declared.law.Law.{Law}
use Rattle.witness_laws.specs.declared.law.Law.TheVariants as laws
use Rattle.witness_laws.specs.Lines.{lines_of}
use Rattle.witness_laws.specs.Formats.{IsFirstFault}
use Rattle.witness_laws.specs.Inputs.{Given}
use Rattle.witness_laws.specs.Tables.{tables_format}
use Rattle.witness_runs.specs.declared.miss.Stop.{Stop}
use Rattle.witness_runs.specs.declared.miss.Stop.TheVariants as stops
use Rattle.witness_reading.specs.Ends.{line_from, told_of}
use Rattle.witness_reading.specs.Reading.{IsReadFault}
use Rattle.witness_reading.proofs.Forms.{Item}
use Rattle.witness_reading.proofs.Faults.{IsForm}
use Rattle.witness_reading.proofs.Leaving.{Leaves}
use Rattle.witness_reading.proofs.Parting.{LeavesBy}
use Rattle.witness_reading.proofs.PairFaults.{IsCounted, counted}

dropped : (front here : List ℕ) (n : ℕ) → n ≡ length front → drop n (front ++ here) ≡ here
dropped [] here n e = ap (λ (m : ℕ). drop m here) e
dropped (c ∷ cs) here n e = ap (λ (m : ℕ). drop m (c ∷ (cs ++ here))) e ∙ dropped cs here (length cs) refl

-- a law of the first pass
which : (L : List Item → Type 0) (bytes : List ℕ) (left : ℕ) (law : Law) → Leaves L bytes left law → (law ≡ laws.Text) ⊎ (law ≡ laws.Cell)
which L bytes left laws.Text s = inl refl
which L bytes left laws.Cell s = inr refl
which L bytes left laws.Header s = absurd s
which L bytes left laws.Cycle s = absurd s
which L bytes left laws.Dual s = absurd s
which L bytes left laws.Cocycle s = absurd s
which L bytes left laws.Contraction s = absurd s
which L bytes left laws.ValueContraction s = absurd s
which L bytes left laws.Carried s = absurd s
which L bytes left laws.Augmentation s = absurd s
which L bytes left laws.Commutes s = absurd s
which L bytes left laws.Matrix s = absurd s

module _ (p : ℕ) (G : Given) (L : List Item → Type 0) (form : IsForm (tables_format p G) L) (bytes : List ℕ) where
  line_told : (left : ℕ) (law : Law) → (c : IsCounted (tables_format p G) bytes left law) → line_from bytes left ≡ c.line + 4
  line_told left law c =
      let n : length bytes ≡ length c.front + length c.here = ap length c.split ∙ length-append c.front c.here in
      let a : length bytes - left ≡ length c.front = let l = c.left_is in omega arith in
      let h : drop (length bytes - left) bytes ≡ c.here = ap (drop (length bytes - left)) c.split ∙ dropped c.front c.here (length bytes - left) a in
      let e : length (lines_of (drop (length bytes - left) bytes)) ≡ length (lines_of c.here) = ap (λ (t : List ℕ). length (lines_of t)) h in
      let m = c.count in omega arith

  -- the fault that the text has where its bytes leave the form
  pub told : (ts : List (List ℕ)) (stop : Stop) → lines_of bytes ≡ ts → LeavesBy L bytes stop → IsReadFault p G ts (told_of bytes stop)
  told ts (stops.At left law) e s =
      let c = counted (tables_format p G) L form bytes left law s in (
        which L bytes left law s,
        c.line,
        line_told left law c,
        subst (λ (l : List (List ℕ)). IsFirstFault (tables_format p G) l c.line law) e c.fault,
      )
  told ts stops.NoMemory e s = tt
