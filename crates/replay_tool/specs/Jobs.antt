-- What `replay` is asked to do.
use Rattle.std.specs.Prelude.{◌≡◌, ℕ, ◌+◌, List, ◌∷◌, false}
use Rattle.report.specs.declared.accepted.Accepted.{Accepted}
use Rattle.report.specs.declared.reports.Report.TheVariants as reports
use Rattle.report.specs.declared.reports.Shown.{Shown}
use Rattle.report.specs.ReportText.{report_text}
use Rattle.loading.specs.Jobs.{Job}
use Rattle.replay_tool.specs.declared.inputs.ReplayJob.{ReplayJob}
use Rattle.replay_tool.specs.Inputs.{Testimony, given_of, read_witness, subject_names, subject_bytes, IsTestimonyIn}
use Rattle.replay_tool.specs.Right.{IsRightReport}
use Rattle.replay_tool.specs.Refusals.{RefusesTestimony}

-- reports modulo p, without cycles, matrices and counts
abbrev pub plain : ℕ → Shown
plain p = record { modulus = p; cycles = false; matrix = false; stats = false }

-- the text of a right report
abbrev pub IsAcceptedText : Testimony → List ℕ → Type 0
IsAcceptedText t text = (report : Accepted)
    × IsRightReport t.modulus (given_of t.subject) t.bytes report
    × (text ≡ report_text (reports.Accepted report) (plain t.modulus))

unfoldable pub replay_job : ReplayJob → Job
replay_job job = record {
  Input = Testimony;
  names = job.witness ∷ subject_names job.files;
  most = read_witness + subject_bytes job.files;
  gives = IsTestimonyIn job;
  refuses = RefusesTestimony job.witness;
  answers = IsAcceptedText;
}
