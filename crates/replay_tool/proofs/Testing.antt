-- A witness that is tested: from what the test answers to what is told.
use Rattle.std.proofs.Common.{◌≡◌, ◌⊎◌, inl, inr, ℕ, sym, subst, List, Result}
use Rattle.faults.specs.declared.fault.Fault.{Fault}
use Rattle.faults.specs.declared.fault.Fault.TheVariants.{LawFails, OutOfMemory}
use Rattle.report.specs.declared.accepted.Accepted.{Accepted}
use Rattle.witness_laws.specs.declared.law.Law.{Law as WitnessLaw}
use Rattle.witness_laws.specs.declared.law.WitnessFault.{WitnessFault}
use Rattle.witness_laws.specs.declared.law.WitnessFault.TheVariants.{At}
use Rattle.witness_laws.specs.Inputs.{Given}
use Rattle.witness_laws.specs.Tables.{tables_format}
use Rattle.witness_types.specs.Answers.{IsFault}
use Rattle.witness_types.specs.Inputs.{IsWithinTables}
use Rattle.replay_tool.specs.declared.inputs.Subject.{Subject}
use Rattle.replay_tool.specs.Inputs.{given_of}
use Rattle.replay_tool.specs.Refusals.{told_law, FailsBy, IsReady}
use Rattle.replay_tool.specs.Answered.{IsReplayed}

-- the limits that are kept are those of the test
pub within : (subject : Subject) → IsReady subject → IsWithinTables (given_of subject)
within subject ready = record { domain = ready.few.domain; range = ready.few.range; carrier = ready.size }

-- the first line that fails refuses the witness, or memory ran out
pub law_refuses : (name : List ℕ) (p : ℕ) (G : Given) (bytes : List ℕ) (found : WitnessFault) (line : ℕ) (law : WitnessLaw) (fault : Fault) → found ≡ At line law → IsFault (tables_format p G) bytes found
    → (fault ≡ LawFails name line (told_law law)) ⊎ (fault ≡ OutOfMemory) → FailsBy name p G bytes fault ⊎ (fault ≡ OutOfMemory)
law_refuses name p G bytes found line law fault e f (inr m) = inr m
law_refuses name p G bytes found line law fault e f (inl is) = inl (record { line = line; law = law; first = subst (IsFault (tables_format p G) bytes) e f; is = is })

-- what is answered on what a witness speaks of, by its kind
pub by_subject : (name : List ℕ) (p : ℕ) (bytes : List ℕ) (subject due : Subject) (result : Result Accepted Fault) → subject ≡ due → IsReplayed name p (given_of due) bytes result
    → IsReplayed name p (given_of subject) bytes result
by_subject name p bytes subject due result e h = subst (λ (s : Subject). IsReplayed name p (given_of s) bytes result) (sym e) h
