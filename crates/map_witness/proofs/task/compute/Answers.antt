use Rattle.std.proofs.Common.{◌≡◌, refl, ℕ, List, Some, ap, ◌∙◌}
use Rattle.std.proofs.lemmas.Result.{err_from_is_err_and}
use Rattle.report.specs.declared.reports.Report.TheVariants.{Map}
use Rattle.report.specs.ReportText.{report_text}
use Rattle.tool.specs.Tasks.{Written}
use Rattle.witness_delivery.specs.Delivery.{whole}
use Rattle.map_homology.specs.Jobs.{shown_of}
use Rattle.map_witness.proofs.Computing.{task_refused, task_done}
use Rattle.map_witness.proofs.task.compute.Goals as goal

pub returns-in_err-report : goal.returns-in_err-report
returns-in_err-report c =
    let p = err_from_is_err_and c.from_residual.result c.from_residual.ensures.1 in
    rw (p.1, p.2) (task_refused c.args.job.now.modulus (shown_of c.args.job.now) c.args.job.now.index c.args.file.now c.args.input.now c.made_of.ensures.table c.in_err-report.field-0.0 c.in_err-report.ensures.made)

pub returns : goal.returns
returns c =
    let bytes = c.in_ok-report.bytes.items in
    let named : c.of.result ≡ whole c.args.file.now bytes = c.of.ensures ∙ ap (λ (n : List ℕ). whole n bytes) c.in_ok-name.ensures in
    task_done c.args.job.now.modulus (shown_of c.args.job.now) c.args.job.now.index c.args.file.now c.args.input.now c.made_of.ensures.table
    c.in_ok-report.report bytes c.of-2.result refl c.in_ok-report.ensures.made.0 c.in_ok-report.ensures.made.1
    (ap (λ (v : Written). v.text) c.of-2.ensures ∙ c.in_ok-text.ensures.right ∙ ap (report_text (Map c.in_ok-report.report)) c.shown.ensures)
    (ap (λ (v : Written). v.file) c.of-2.ensures ∙ ap Some named)
