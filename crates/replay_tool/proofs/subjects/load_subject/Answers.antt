use Rattle.replay_tool.proofs.Files.{of_pair, of_map}
use Rattle.replay_tool.proofs.subjects.load_subject.Goals as goal

pub returns-in-Pair-clause-loads : goal.returns-in-Pair-clause-loads
returns-in-Pair-clause-loads g c =
    of_pair c.in-Pair.x _ c.in-Pair.a (g.F.Files.seen c.args.files.now) (g.F.Files.seen c.load_sets.new.files) c.load_sets.result c.args.names.now c.in-Pair.is c.as_ref.ensures.value c.load_sets.ensures.loads

pub returns-in-Map-clause-loads : goal.returns-in-Map-clause-loads
returns-in-Map-clause-loads g c =
    of_map c.in-Map.map (g.F.Files.seen c.args.files.now) (g.F.Files.seen c.load_maps.new.files) c.load_maps.result c.args.names.now c.in-Map.is c.load_maps.ensures.loads
