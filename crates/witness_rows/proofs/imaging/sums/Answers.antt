use Rattle.std.proofs.Common.{arith}
use Rattle.witness_rows.proofs.Imaged.{sums_more}
use Rattle.witness_rows.proofs.imaging.sums.Goals as goal

pub loop-place-preserved : goal.loop-place-preserved
loop-place-preserved g c = sums_more g.row.P c.args.images.now c.args.cycles.now c.loop-place.all.items c.push.new.self.items c.index-cycles-place.result c.in_ok-sum.sum c.loop-place.place (omega (arith, c.loop-place-test.true)) c.index-cycles-place.is c.in_ok-push.ensures.items c.in_ok-sum.ensures.sum c.loop-place.invariant
