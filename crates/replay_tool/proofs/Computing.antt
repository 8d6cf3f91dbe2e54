-- What is computed of a witness, as promised of the job.
use Rattle.std.proofs.Common.{◌≡◌, ◌⊎◌, inl, inr, ⊎_elim, ℕ, List, Result, Ok, Err, IfOk, IfErr}
use Rattle.faults.specs.declared.fault.Fault.{Fault}
use Rattle.faults.specs.declared.fault.Fault.TheVariants.{OutOfMemory}
use Rattle.loading.specs.Jobs.{Computes}
use Rattle.report.specs.declared.accepted.Accepted.{Accepted}
use Rattle.report.specs.declared.reports.Report.TheVariants as reports
use Rattle.report.specs.ReportText.{report_text}
use Rattle.witness_laws.specs.Inputs.{Given}
use Rattle.witness_laws.proofs.Outcomes.{tables_have_one_outcome}
use Rattle.witness_types.specs.Headers.{body_of}
use Rattle.replay_tool.specs.Inputs.{Testimony, given_of}
use Rattle.replay_tool.specs.Refusals.{FailsBy, IsReady, RefusesReading, RefusesTestimony}
use Rattle.replay_tool.specs.Right.{IsRightReport}
use Rattle.replay_tool.specs.Jobs.{plain, IsAcceptedText}
use Rattle.replay_tool.proofs.Judging.{accepted_allowed}

-- a right report is of lines that fail by no law
right_fails : (name bytes : List ℕ) (p : ℕ) (G : Given) (report : Accepted) → IsRightReport p G bytes report → (fault : Fault) → FailsBy name p G bytes fault → ⊥
right_fails name bytes p G report right fault f = (tables_have_one_outcome p G).accepted (body_of bytes) f.first.0 f.law right.tables f.first.2 right.accepted

module _ (name : List ℕ) (t : Testimony) where
  pub reading_refused : (fault : Fault) → RefusesReading t.subject fault ⊎ (fault ≡ OutOfMemory) → Computes (RefusesTestimony name) IsAcceptedText t (Err fault)
  reading_refused fault r = record { right = tt; allowed = tt; fault = ⊎_elim (λ f. inl (inl f)) (λ e. inr e) r }

  pub law_refused : (fault : Fault) → IsReady t.subject → FailsBy name t.modulus (given_of t.subject) t.bytes fault ⊎ (fault ≡ OutOfMemory) → Computes (RefusesTestimony name) IsAcceptedText t (Err fault)
  law_refused fault h r = record { right = tt; allowed = tt; fault = ⊎_elim (λ f. inl (inr (h, f))) (λ e. inr e) r }

  pub computed : (report : Accepted) → IsReady t.subject → IsRightReport t.modulus (given_of t.subject) t.bytes report → (result : Result (List ℕ) Fault)
      → IfOk result (λ text. text ≡ report_text (reports.Accepted report) (plain t.modulus)) → IfErr result (λ fault. fault ≡ OutOfMemory) → Computes (RefusesTestimony name) IsAcceptedText t result
  computed report h right (Ok text) e m = record {
    right = (report, right, e);
    allowed = accepted_allowed name t h (right_fails name t.bytes t.modulus (given_of t.subject) report right);
    fault = tt;
  }
  computed report h right (Err fault) e m = record { right = tt; allowed = tt; fault = inr m }
