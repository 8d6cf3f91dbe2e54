use Rattle.witness_scanning.proofs.Whole.{no_vertex_front, no_vertex_behind, vertex_here}
use Rattle.witness_scanning.proofs.lines.vertex_line.Goals as goal

pub returns-in_default : goal.returns-in_default
returns-in_default c = no_vertex_front c.args.number c.args.bytes.now c.in_default.ensures

pub returns-in_default-number_before : goal.returns-in_default-number_before
returns-in_default-number_before c = no_vertex_behind c.args.number c.args.bytes.now c.in-Some.behind.now c.in-Some.ensures c.in_default-number_before.ensures

pub returns : goal.returns
returns c = vertex_here c.args.number c.args.bytes.now c.in-Some.behind.now c.in-Some-number_before.vertex c.in-Some-number_before.rest.now c.in-Some.ensures c.in-Some-number_before.ensures
