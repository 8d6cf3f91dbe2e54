use Rattle.std.proofs.Common.{◌∙◌, arith}
use Rattle.excision.proofs.Telling.{closed_pair, told_by_log}
use Rattle.excision.proofs.deciding.is_acyclic.Goals as goal

pub complex_of-requires : goal.complex_of-requires
complex_of-requires g c = (omega arith, (omega arith, closed_pair c.args.cells.now c.len.ensures.sorted c.requires))

pub returns : goal.returns
returns g c = told_by_log g.row.P c.args.cells.now c.in_ok-complex.complex c.in_ok-log.log.complex c.in_ok-log.log.steps c.is_one_vertex.result c.args.field.listed c.len.ensures.sorted c.requires c.in_ok-complex.ensures (c.in_ok-log.ensures.complex ∙ c.in_ok-start.ensures.0) c.step_count.ensures.steps c.in_ok-log.ensures.nothing_left c.is_one_vertex.ensures
