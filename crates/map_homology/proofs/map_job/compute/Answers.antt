use Rattle.std.proofs.Common.{refl}
use Rattle.std.proofs.lemmas.Result.{err_from_is_err_and}
use Rattle.map_homology.specs.Jobs.{shown_of}
use Rattle.map_homology.proofs.Computing.{map_refused, map_computed}
use Rattle.map_homology.proofs.map_job.compute.Goals as goal

pub returns-in_err-report : goal.returns-in_err-report
returns-in_err-report c =
    let p = err_from_is_err_and c.from_residual.result c.from_residual.ensures.1 in
    rw (p.1, p.2) (map_refused c.args.job.now.modulus (shown_of c.args.job.now) c.args.job.now.index c.args.input.now c.in_err-report.field-0.0 c.map_report.ensures.table c.in_err-report.ensures.reported)

pub returns : goal.returns
returns c =
    map_computed c.args.job.now.modulus (shown_of c.args.job.now) c.shown.result c.args.job.now.index c.args.input.now c.in_ok-report.report c.answer_of.result c.map_report.ensures.table refl c.shown.ensures
    c.in_ok-report.ensures.reported.0 c.in_ok-report.ensures.reported.1 c.answer_of.ensures.right c.answer_of.ensures.fault
