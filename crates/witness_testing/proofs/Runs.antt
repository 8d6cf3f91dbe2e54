-- The lines of a value: all of them meet the laws, or one is the first that fails.
use Rattle.std.proofs.Common.{◌≡◌, ℕ, zero, suc, ◌+◌, ◌<◌, arith, List, [], ◌∷◌, ◌++◌, length, length-append, get_or}
use Rattle.witness_laws.specs.declared.law.Law.{Law}
use Rattle.witness_laws.specs.declared.law.Law.TheVariants as laws
use Rattle.witness_laws.specs.declared.law.WitnessFault.{WitnessFault}
use Rattle.witness_laws.specs.declared.law.WitnessFault.TheVariants.{At, NoMemory}
use Rattle.witness_laws.specs.Lines.{Line, values, matrix, end}
use Rattle.witness_laws.specs.Formats.{MeetsFirst, MeetsLaws}
use Rattle.witness_laws.specs.Inputs.{Given}
use Rattle.witness_laws.specs.Tables.{Tables, lines_of_tables, tables_format, holds}
use Rattle.witness_sections.specs.Outcomes.{AllHold, FailsBy, Meet, Fails, ArePassed, IsFaultAmong}
use Rattle.witness_sections.proofs.Lining.{meet_append, fails_front, fails_behind}
use Rattle.witness_testing.specs.Testing.{FailsAt, IsTestFault}

module _ (H : Law → Line → Type 0) where
  met_at : (ls : List Line) → Meet H ls → (i : ℕ) → i < length ls → AllHold H (get_or ls i end)
  met_at [] m i l = absurd (omega (arith, l))
  met_at (k ∷ ks) m zero l = m.0
  met_at (k ∷ ks) m (suc i) l = met_at ks m.1 i (omega (arith, l))

  failed_within : (ls : List Line) (k : ℕ) (law : Law) → Fails H ls k law → k < length ls
  failed_within [] k law f = absurd f
  failed_within (x ∷ ls) zero law f = omega arith
  failed_within (x ∷ ls) (suc k) law f = let r = failed_within ls k law f.1 in omega (arith, r)

  failed_here : (ls : List Line) (k : ℕ) (law : Law) → Fails H ls k law → FailsBy H (get_or ls k end) law
  failed_here [] k law f = absurd f
  failed_here (x ∷ ls) zero law f = f
  failed_here (x ∷ ls) (suc k) law f = failed_here ls k law f.1

  failed_before : (ls : List Line) (k : ℕ) (law : Law) → Fails H ls k law → (i : ℕ) → i < k → AllHold H (get_or ls i end)
  failed_before [] k law f i l = absurd f
  failed_before (x ∷ ls) zero law f i l = absurd (omega (arith, l))
  failed_before (x ∷ ls) (suc k) law f zero l = f.0
  failed_before (x ∷ ls) (suc k) law f (suc i) l = failed_before ls k law f.1 i (omega (arith, l))

  -- ---- runs, one behind the other

  pub passed_append : (ks ls : List Line) (from mid behind : ℕ) → ArePassed H ks from mid → ArePassed H ls mid behind → ArePassed H (ks ++ ls) from behind
  passed_append ks ls from mid behind a b = record {
    next = let e = a.next in let f = b.next in let l = length-append ks ls in omega (arith, e, f, l);
    meet = meet_append H ks ls a.meet b.meet;
  }

  pub passed_one : (line : Line) (from : ℕ) → AllHold H line → ArePassed H (line ∷ []) from (from + 1)
  passed_one line from h = record { next = omega arith; meet = (h, tt) }

  pub passed_none : (from : ℕ) → ArePassed H [] from from
  passed_none from = record { next = omega arith; meet = tt }

  pub fault_front : (ks ls : List Line) (from : ℕ) (fault : WitnessFault) → IsFaultAmong H ks from fault → IsFaultAmong H (ks ++ ls) from fault
  fault_front ks ls from (At line law) w = (w.0, w.1, fails_front H ks ls w.0 law w.2)
  fault_front ks ls from NoMemory w = tt

  pub fault_behind : (ks ls : List Line) (from mid : ℕ) (fault : WitnessFault) → ArePassed H ks from mid → IsFaultAmong H ls mid fault → IsFaultAmong H (ks ++ ls) from fault
  fault_behind ks ls from mid (At line law) a w = (length ks + w.0, (let e = a.next in let f = w.1 in omega (arith, e, f)), fails_behind H ks ls w.0 law a.meet w.2)
  fault_behind ks ls from mid NoMemory a w = tt

-- ---- lines without laws

module _ (p : ℕ) (G : Given) (W : Tables) where
  pub values_hold : AllHold (holds p G W) values
  values_hold law _ = every law
    where
      every : (law : Law) → holds p G W law values
      every laws.Text = tt
      every laws.Header = tt
      every laws.Cell = tt
      every laws.Cycle = tt
      every laws.Dual = tt
      every laws.Cocycle = tt
      every laws.Contraction = tt
      every laws.ValueContraction = tt
      every laws.Carried = tt
      every laws.Augmentation = tt
      every laws.Commutes = tt
      every laws.Matrix = tt

  pub matrix_holds : AllHold (holds p G W) matrix
  matrix_holds law _ = every law
    where
      every : (law : Law) → holds p G W law matrix
      every laws.Text = tt
      every laws.Header = tt
      every laws.Cell = tt
      every laws.Cycle = tt
      every laws.Dual = tt
      every laws.Cocycle = tt
      every laws.Contraction = tt
      every laws.ValueContraction = tt
      every laws.Carried = tt
      every laws.Augmentation = tt
      every laws.Commutes = tt
      every laws.Matrix = tt

  pub end_holds : AllHold (holds p G W) end
  end_holds law _ = every law
    where
      every : (law : Law) → holds p G W law end
      every laws.Text = tt
      every laws.Header = tt
      every laws.Cell = tt
      every laws.Cycle = tt
      every laws.Dual = tt
      every laws.Cocycle = tt
      every laws.Contraction = tt
      every laws.ValueContraction = tt
      every laws.Carried = tt
      every laws.Augmentation = tt
      every laws.Commutes = tt
      every laws.Matrix = tt

  -- ---- the value

  pub value_meets : MeetsFirst (tables_format p G) W → Meet (holds p G W) (lines_of_tables W) → MeetsLaws (tables_format p G) W
  value_meets f m = record { first = f; second = λ i l law c. met_at (holds p G W) (lines_of_tables W) m i l law c }

  value_fails : (k : ℕ) (law : Law) → Fails (holds p G W) (lines_of_tables W) k law → FailsAt (tables_format p G) W k law
  value_fails k law f = let b = failed_here (holds p G W) (lines_of_tables W) k law f in record {
    within = failed_within (holds p G W) (lines_of_tables W) k law f;
    at = b.at;
    inside = b.inside;
    named = b.named;
    before = record { lines = λ i l other c. failed_before (holds p G W) (lines_of_tables W) k law f i l other c; laws = b.before };
    here = b.here;
  }

  pub value_fault : (fault : WitnessFault) → IsFaultAmong (holds p G W) (lines_of_tables W) 4 fault → IsTestFault (tables_format p G) W fault
  value_fault (At line law) w = (w.0, (let e = w.1 in omega (arith, e)), value_fails w.0 law w.2)
  value_fault NoMemory w = tt
