use Rattle.std.proofs.Common.{option_copied}
use Rattle.std.proofs.lemmas.Result.{err_from_is_err_and}
use Rattle.pair_maps.proofs.Files.{set_refused, subset_refused, pair_loads}
use Rattle.pair_maps.proofs.inputs.load_pair.Goals as goal

pub returns-in_err-first-clause-loads : goal.returns-in_err-first-clause-loads
returns-in_err-first-clause-loads g c =
    let p = err_from_is_err_and c.from_residual.result c.from_residual.ensures.1 in
    rw (p.1, p.2) (set_refused c.args.x.now (option_copied c.args.a) (g.F.Files.seen c.args.files.now) (g.F.Files.seen c.load_set.new.files) c.in_err-first.field-0.0 c.in_err-first.ensures.loads)

pub returns-in_err-second-clause-loads : goal.returns-in_err-second-clause-loads
returns-in_err-second-clause-loads g c =
    let p = err_from_is_err_and c.from_residual-in_err-second.result c.from_residual-in_err-second.ensures.1 in
    rw (p.1, p.2) (subset_refused c.args.x.now (option_copied c.args.a) (g.F.Files.seen c.args.files.now) (g.F.Files.seen c.load_set.new.files) (g.F.Files.seen c.load_subset.new.files) c.in_ok-first.first c.in_ok-first.ensures.loads c.in_err-second.field-0.0 c.in_err-second.ensures.loads)

pub returns-clause-loads : goal.returns-clause-loads
returns-clause-loads g c =
    pair_loads c.args.x.now (option_copied c.args.a) (g.F.Files.seen c.args.files.now) (g.F.Files.seen c.load_set.new.files) (g.F.Files.seen c.load_subset.new.files) c.in_ok-first.first c.in_ok-first.ensures.loads
    c.in_ok-second.second c.in_ok-second.ensures.loads
