use Rattle.std.proofs.Common.{length, arith}
use Rattle.cell_points.proofs.Axes.{axes_few}
use Rattle.cell_points.proofs.mask.rank_of.Goals as goal

pub turned-requires : goal.turned-requires
turned-requires c = axes_few (length c.args.cell.now) c.axes.result (omega (arith, c.embedding.ensures.embedding, c.embedding.ensures.few)) c.axes.ensures.few
