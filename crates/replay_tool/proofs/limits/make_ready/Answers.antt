use Rattle.replay_tool.proofs.Limiting.{pair_on_ok, pair_if_err, ready_of_map, refused_of_map}
use Rattle.replay_tool.proofs.limits.make_ready.Goals as goal

pub returns-in-Pair-clause-ready : goal.returns-in-Pair-clause-ready
returns-in-Pair-clause-ready c = pair_on_ok c.in-Pair.sets c.args.subject.now c.in-Pair.is c.test_cells.result c.test_cells.ensures.few

pub returns-in-Pair-clause-fault : goal.returns-in-Pair-clause-fault
returns-in-Pair-clause-fault c = pair_if_err c.in-Pair.sets c.args.subject.now c.in-Pair.is c.test_cells.result c.test_cells.ensures.fault

pub returns-in-Map-clause-ready : goal.returns-in-Map-clause-ready
returns-in-Map-clause-ready c = ready_of_map c.in-Map.map c.args.subject.now c.in-Map.is c.make_map_ready.result c.make_map_ready.ensures.ready

pub returns-in-Map-clause-fault : goal.returns-in-Map-clause-fault
returns-in-Map-clause-fault c = refused_of_map c.in-Map.map c.args.subject.now c.in-Map.is c.make_map_ready.result c.make_map_ready.ensures.fault
