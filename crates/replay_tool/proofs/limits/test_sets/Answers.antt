use Rattle.replay_tool.proofs.Sets.{sets_refused}
use Rattle.replay_tool.proofs.limits.test_sets.Goals as goal

pub returns-in-Err-clause-fault : goal.returns-in-Err-clause-fault
returns-in-Err-clause-fault c = sets_refused c.args.map.now c.in-Err.fault c.told_of_sets.result c.in-Err.ensures.err c.in-Err.ensures.sets c.told_of_sets.ensures
