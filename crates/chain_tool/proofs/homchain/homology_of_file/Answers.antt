use Rattle.std.proofs.lemmas.Result.{err_from_is_err_and}
use Rattle.chain_tool.proofs.Answering.{bytes_refused, text_refused, complex_answered}
use Rattle.chain_tool.proofs.homchain.homology_of_file.Goals as goal

pub returns-in_err-bytes : goal.returns-in_err-bytes
returns-in_err-bytes g c =
    let p = err_from_is_err_and c.from_residual.result c.from_residual.ensures.1 in
    rw (p.1, p.2) (bytes_refused c.args.job.now (g.F.Files.seen c.args.files.now) (g.F.Files.seen c.load_bytes.new.files) c.in_err-bytes.field-0.0 c.in_err-bytes.ensures)

pub returns-in_err-dimensions : goal.returns-in_err-dimensions
returns-in_err-dimensions g c =
    let p = err_from_is_err_and c.from_residual-in_err-dimensions.result c.from_residual-in_err-dimensions.ensures.1 in
    rw (p.1, p.2) (text_refused c.args.job.now (g.F.Files.seen c.args.files.now) (g.F.Files.seen c.load_bytes.new.files) c.in_ok-bytes.bytes.items c.in_ok-bytes.ensures
    c.in_err-dimensions.field-0.0 c.in_err-dimensions.ensures.fault)

pub returns : goal.returns
returns g c =
    let r = c.in_ok-dimensions.ensures.right in
    complex_answered c.args.job.now (g.F.Files.seen c.args.files.now) (g.F.Files.seen c.load_bytes.new.files) c.in_ok-bytes.bytes.items c.in_ok-bytes.ensures
    r.0 c.in_ok-dimensions.dimensions c.in_ok-dimensions.cycles c.shown.result c.answer_of.result r.1 r.2 c.shown.ensures c.answer_of.ensures.right c.answer_of.ensures.fault
