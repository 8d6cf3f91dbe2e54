use Rattle.std.proofs.Common.{arith}
use Rattle.chain_selector.proofs.Values.{some_vertex, no_vertex_more}
use Rattle.chain_selector.proofs.filling.first_vertex.Goals as goal

pub loop-number-preserved : goal.loop-number-preserved
loop-number-preserved c = no_vertex_more c.args.value.now c.loop-number.number c.dim.result c.cell.result c.loop-number.invariant c.cell.ensures c.dim.ensures.dimension (λ e. absurd (omega arith))

pub unreachable-requires : goal.unreachable-requires
unreachable-requires c = some_vertex c.args.value.now c.requires.closed c.requires.some (λ k l. c.loop-number.invariant k (omega arith))
