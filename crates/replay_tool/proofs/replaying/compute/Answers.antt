use Rattle.std.proofs.lemmas.Result.{err_from_is_err_and}
use Rattle.replay_tool.specs.Inputs.{Testimony}
use Rattle.replay_tool.proofs.Computing.{reading_refused, law_refused, computed}
use Rattle.replay_tool.proofs.replaying.compute.Goals as goal

pub returns-in_err-make_ready : goal.returns-in_err-make_ready
returns-in_err-make_ready c =
    let t : Testimony = record { bytes = c.args.bytes.now; modulus = c.args.modulus; subject = c.args.subject.now } in
    let p = err_from_is_err_and c.from_residual.result c.from_residual.ensures.1 in
    rw (p.1, p.2) (reading_refused c.args.name.now t c.in_err-make_ready.field-0.0 c.in_err-make_ready.ensures.fault)

pub returns-in_err-report : goal.returns-in_err-report
returns-in_err-report c =
    let t : Testimony = record { bytes = c.args.bytes.now; modulus = c.args.modulus; subject = c.args.subject.now } in
    let p = err_from_is_err_and c.from_residual-in_err-report.result c.from_residual-in_err-report.ensures.1 in
    rw (p.1, p.2) (law_refused c.args.name.now t c.in_err-report.field-0.0 c.in_ok-make_ready.ensures.ready c.in_err-report.ensures)

pub returns : goal.returns
returns c =
    let t : Testimony = record { bytes = c.args.bytes.now; modulus = c.args.modulus; subject = c.args.subject.now } in
    computed c.args.name.now t c.in_ok-report.report c.in_ok-make_ready.ensures.ready c.in_ok-report.ensures c.answer_of.result c.answer_of.ensures.right c.answer_of.ensures.fault
