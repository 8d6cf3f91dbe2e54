use Rattle.std.proofs.Common.{ap}
use Rattle.std.proofs.lemmas.Result.{err_from_is_err_and}
use Rattle.tool.specs.Ends.{name_of}
use Rattle.tool.proofs.Lifting.{loading_refused, provided}
use Rattle.map_witness.specs.Jobs.{map_witness_task}
use Rattle.map_witness.proofs.task.witnessed_map.Goals as goal

pub returns-in_err-input : goal.returns-in_err-input
unfolding map_witness_task
returns-in_err-input g c =
    let old = g.F.Files.seen c.args.files.now in
    let new = g.F.Files.seen c.load_pair_map.new.files in
    let p = err_from_is_err_and c.from_residual.result c.from_residual.ensures.1 in
    rw (p.1, p.2) (loading_refused (map_witness_task c.args.job.now c.args.file.now) old new c.in_err-input.field-0.0 c.in_err-input.ensures.loads)

pub returns : goal.returns
unfolding map_witness_task
returns g c =
    let old = g.F.Files.seen c.args.files.now in
    let new = g.F.Files.seen c.load_pair_map.new.files in
    provided (map_witness_task c.args.job.now c.args.file.now) old new c.in_ok-input.input c.in_ok-input.ensures.loads
    (λ written w. ap name_of w.4) c.compute.result c.compute.ensures
