use Rattle.std.proofs.Common.{option_copied}
use Rattle.std.proofs.lemmas.Result.{err_from_is_err_and}
use Rattle.loading.proofs.LoadingTwo.{second_refused, two_load}
use Rattle.loading.proofs.two_sets.load_two_sets.Goals as goal

pub returns-in_err-second-clause-loads : goal.returns-in_err-second-clause-loads
returns-in_err-second-clause-loads g c =
    let p = err_from_is_err_and c.from_residual-in_err-second.result c.from_residual-in_err-second.ensures.1 in
    rw (p.1, p.2) (second_refused c.args.x.now (option_copied c.args.y) (g.F.Files.seen c.args.files.now) (g.F.Files.seen c.load_set.new.files) (g.F.Files.seen c.load_subset.new.files) c.in_ok-first.first c.in_ok-first.ensures.loads c.in_err-second.field-0.0 c.in_err-second.ensures.loads)

pub returns-clause-loads : goal.returns-clause-loads
returns-clause-loads g c =
    two_load c.args.x.now (option_copied c.args.y) (g.F.Files.seen c.args.files.now) (g.F.Files.seen c.load_set.new.files) (g.F.Files.seen c.load_subset.new.files) c.in_ok-first.first c.in_ok-first.ensures.loads
    c.in_ok-second.second c.in_ok-second.ensures.loads c.pair_of.result c.pair_of.ensures.due
