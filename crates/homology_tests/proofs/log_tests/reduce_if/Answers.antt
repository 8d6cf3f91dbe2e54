use Rattle.std.proofs.Common.{rules, arith}
use Rattle.field_mod.proofs.Table.{two_le}
use Rattle.algebraic_reduction.proofs.Dimension.{read_nonzero}
use Rattle.homology_tests.proofs.log_tests.reduce_if.Goals as goal

pub reduce_pair-requires : goal.reduce_pair-requires
reduce_pair-requires g c =
    let incident = read_nonzero g.row.P c.coefficient.result c.args.a _ c.in_ok-row.row (two_le g.row.P c.args.field.listed) c.coefficient.ensures.normal c.coefficient.ensures.value c.if-coefficient-eq0.false (c.in_ok-row.ensures c.args.a) in
    ((omega arith), ((omega arith), ((search rules), ((search rules), incident))))
