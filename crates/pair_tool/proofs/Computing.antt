-- The text of the homology of a pair.
use Rattle.std.proofs.Common.{◌≡◌, ℕ, ◌≤◌, List, ◌++◌, Result, Ok, Err, IfOk, IfErr, ap, ◌∙◌, inr}
use Rattle.basis_reports.specs.Right.{AreAsShown}
use Rattle.faults.specs.declared.fault.Fault.{Fault}
use Rattle.faults.specs.declared.fault.Fault.TheVariants.{OutOfMemory}
use Rattle.report.specs.declared.pair.PairReport.{PairReport}
use Rattle.report.specs.declared.reports.Report.TheVariants.{Pair}
use Rattle.report.specs.declared.reports.Shown.{Shown}
use Rattle.faults.specs.ChainText.{cell_text}
use Rattle.report.specs.ReportText.{shown_counts, report_text}
use Rattle.basis_reports.proofs.Showing.{same_lines}
use Rattle.loading.specs.Jobs.{Computes}
use Rattle.loading.specs.declared.two_sets.TwoSets.{TwoSets}
use Rattle.pair_tool.specs.Jobs.{most_cells, cells_of_pair, RefusesPair, IsHomologyOf, AreCountsOf, IsPairText}
use Rattle.pair_tool.proofs.Judging.{few_allowed}

pub pair_computed : (shown printed : Shown) (pair : TwoSets) (report : PairReport) (result : Result (List ℕ) Fault) → printed ≡ shown
    → AreAsShown shown.cycles (IsHomologyOf shown.modulus pair report.dimensions) report.cycles → AreCountsOf shown.modulus pair report → cells_of_pair pair ≤ most_cells
    → IfOk result (λ text. text ≡ report_text (Pair report) printed) → IfErr result (λ fault. fault ≡ OutOfMemory) → Computes RefusesPair (IsPairText shown) pair result
pair_computed shown printed pair report (Ok text) e (cycles, right, same) counts few is err =
    record {
      right = (
        record { dimensions = report.dimensions; cycles = cycles; cells = report.cells; grown = report.grown; left = report.left },
        right,
        counts,
        is ∙ ap (report_text (Pair report)) e ∙ ap (λ lines. lines ++ shown_counts shown report) (same_lines cell_text report.dimensions shown report.cycles cycles same),
      );
      allowed = few_allowed pair few;
      fault = tt;
    }
pair_computed shown printed pair report (Err fault) e right counts few is err = record { right = tt; allowed = tt; fault = inr err }
