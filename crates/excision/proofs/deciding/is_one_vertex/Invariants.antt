use Rattle.excision.proofs.Telling.{OneSo}
use Rattle.excision.proofs.deciding.is_one_vertex.Given as goal

abbrev pub invariant-loop-generator : goal.invariant-loop-generator
invariant-loop-generator g l = OneSo l.log.complex l.log.steps l.generator l.found
