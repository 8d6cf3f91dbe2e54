use Rattle.std.proofs.lemmas.Result.{err_from_is_err_and}
use Rattle.replay_tool.proofs.Files.{maps_refused}
use Rattle.replay_tool.proofs.subjects.load_maps.Goals as goal

pub returns-in_err-map-clause-loads : goal.returns-in_err-map-clause-loads
returns-in_err-map-clause-loads g c =
    let p = err_from_is_err_and c.from_residual.result c.from_residual.ensures.1 in
    rw (p.1, p.2) (maps_refused c.args.map.now (g.F.Files.seen c.args.files.now) (g.F.Files.seen c.load_pair_map.new.files) c.in_err-map.field-0.0 c.in_err-map.ensures.loads)
