-- What `homchain` is asked to do.
use Rattle.std.specs.Prelude.{◌≡◌, ℕ, List, [], ◌∷◌, false}
use Rattle.chain_files.specs.Content.{Content}
use Rattle.faults.specs.declared.fault.Fault.{Fault}
use Rattle.report.specs.declared.reports.Report.TheVariants.{Chain}
use Rattle.report.specs.declared.reports.Shown.{Shown}
use Rattle.report.specs.ReportText.{report_text}
use Rattle.basis_reports.specs.Right.{CyclesOver, IsRightFile}
use Rattle.loading.specs.Readings.{read_bytes}
use Rattle.loading.specs.Jobs.{Job}
use Rattle.chain_tool.specs.Contents.{IsContentIn}
use Rattle.chain_tool.specs.declared.homchain.ChainJob.{ChainJob}

-- no limit refuses a complex beyond those of its file
abbrev pub RefusesNothing : Content → Fault → Type 0
RefusesNothing content fault = ⊥

-- the text of a report on the homology of the complex; also where no cycles are shown, the report
-- has them
abbrev pub IsChainText : Shown → Content → List ℕ → Type 0
IsChainText shown content text = (dimensions : List ℕ) × (cycles : CyclesOver ℕ)
    × IsRightFile shown.modulus content dimensions cycles
    × (text ≡ report_text (Chain dimensions cycles) shown)

-- how the report is printed
abbrev pub shown_of : ChainJob → Shown
shown_of job = record {
  modulus = job.modulus;
  cycles = job.cycles;
  matrix = false;
  stats = false;
}

unfoldable pub chain_job : ChainJob → Job
chain_job job = record {
  Input = Content;
  names = job.file ∷ [];
  most = read_bytes;
  gives = IsContentIn job.modulus job.file;
  refuses = RefusesNothing;
  answers = IsChainText (shown_of job);
}
