use Rattle.std.proofs.Common.{arith}
use Rattle.carrier_tests.proofs.matrix_tests.index_of_included.Goals as goal

pub index_over-requires : goal.index_over-requires
index_over-requires g c = ((omega arith), ((omega arith), ((omega arith), (c.in-Ok.ensures.carrier, c.requires.included))))
