-- From the text of a chain file to an answer.
use Rattle.std.proofs.Common.{◌≡◌, ℕ, List, Result, Ok, Err, IfOk, IfErr, ap, ◌∙◌, ◌⊎◌, inl, inr}
use Rattle.outside.specs.Seen.{Seen}
use Rattle.chain_files.specs.Content.{Content}
use Rattle.basis_reports.specs.Right.{IsRightFile, AreAsShown}
use Rattle.basis_reports.proofs.Showing.{same_lines}
use Rattle.faults.specs.declared.fault.Fault.{Fault}
use Rattle.faults.specs.declared.fault.Fault.TheVariants.{OutOfMemory}
use Rattle.report.specs.declared.reports.Report.TheVariants.{Chain}
use Rattle.report.specs.declared.reports.Shown.{Shown}
use Rattle.faults.specs.ChainText.{number_text}
use Rattle.report.specs.ReportText.{report_text}
use Rattle.loading.specs.Readings.{Finds, file_bytes, read_bytes}
use Rattle.loading.specs.Loads.{Loads}
use Rattle.loading.specs.Jobs.{Answers}
use Rattle.loading.proofs.Loading.{then_loads, refused}
use Rattle.chain_tool.specs.declared.homchain.ChainJob.{ChainJob}
use Rattle.chain_tool.specs.Contents.{IsContentOf, IsContentIn}
use Rattle.chain_tool.specs.Jobs.{chain_job, shown_of}
use Rattle.chain_tool.proofs.Judging.{content_plain}

module _ (job : ChainJob) (old new : Seen) where
  by_load : (fault : Fault) → Loads {A = Content} read_bytes (IsContentIn job.modulus job.file) old new (Err fault) → Answers (chain_job job) old new (Err fault)
  unfolding chain_job
  by_load fault h = record { right = tt; fault = inl h.fault; given = h.given; left = h.holds; writes = h.writes }

  -- the file is not read
  pub bytes_refused : (fault : Fault) → Loads {A = List ℕ} read_bytes (λ read. Finds read file_bytes job.file) old new (Err fault) → Answers (chain_job job) old new (Err fault)
  bytes_refused fault h = by_load fault (refused read_bytes (λ read. Finds read file_bytes job.file) (λ read. IsContentOf job.modulus job.file) old new fault h)

  module _ (text : List ℕ) (h : Loads {A = List ℕ} read_bytes (λ read. Finds read file_bytes job.file) old new (Ok text)) where
    loaded : (result : Result Content Fault) → IfOk result (λ content. IsContentOf job.modulus job.file text (Ok content))
        → IfErr result (λ fault. IsContentOf job.modulus job.file text (Err fault) ⊎ (fault ≡ OutOfMemory)) → Loads read_bytes (IsContentIn job.modulus job.file) old new result
    loaded = then_loads read_bytes (λ read. Finds read file_bytes job.file) (IsContentOf job.modulus job.file) old new text h (content_plain job.modulus job.file text)

    -- the text is refused
    pub text_refused : (fault : Fault) → IsContentOf job.modulus job.file text (Err fault) ⊎ (fault ≡ OutOfMemory) → Answers (chain_job job) old new (Err fault)
    text_refused fault r = by_load fault (loaded (Err fault) tt r)

    -- the text is a complex
    pub complex_answered : (content : Content) (dimensions : List ℕ) (cycles : List (List (List (ℕ × ℕ)))) (printed : Shown) (result : Result (List ℕ) Fault) → IsContentOf job.modulus job.file text (Ok content)
        → AreAsShown job.cycles (IsRightFile job.modulus content dimensions) cycles → printed ≡ shown_of job
        → IfOk result (λ text. text ≡ report_text (Chain dimensions cycles) printed) → IfErr result (λ fault. fault ≡ OutOfMemory) → Answers (chain_job job) old new result
    unfolding chain_job
    complex_answered content dimensions cycles printed (Ok t) is (all, right, same) e text_is err = record {
      right = (
        content,
        ((loaded (Ok content) is tt).value, (λ fault r. r)),
        (dimensions, all, right, text_is ∙ ap (report_text (Chain dimensions cycles)) e ∙ same_lines number_text dimensions (shown_of job) cycles all same),
      );
      fault = tt;
      given = h.given;
      left = h.holds;
      writes = h.writes;
    }
    complex_answered content dimensions cycles printed (Err fault) is right e text_is err = by_load fault (loaded (Err fault) tt (inr err))
