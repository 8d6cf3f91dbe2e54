use Rattle.std.proofs.Common.{arith}
use Rattle.carrier_tests.proofs.Asked.{pairs_of}
use Rattle.carrier_tests.proofs.matrix_tests.matrices_over.Goals as goal

pub matrices_in-requires : goal.matrices_in-requires
matrices_in-requires g c =
    let pairs = pairs_of g.row.P c.args.input.now c.args.carrier c.in-Some.domain.0 c.in-Some-basis_of.range.0 c.in-Some.domain.1 c.in-Some-basis_of.range.1 c.requires c.in-Some.ensures c.in-Some-basis_of.ensures in
    ((omega arith), ((omega arith), ((omega arith), ((omega arith), ((omega arith), pairs)))))
