use Rattle.std.proofs.Common.{length, arith}
use Rattle.witness_sections.proofs.Termwise.{named_at, all_more}
use Rattle.witness_sections.proofs.reading.read_chains.Goals as goal

pub read_chain-requires : goal.read_chain-requires
read_chain-requires g c = ((omega arith), ((omega arith), named_at (length c.args.cells.now) c.args.chains.now c.index-chains-place.result c.loop-place.place c.requires (omega (arith, c.loop-place-test.true)) c.index-chains-place.is))

pub loop-place-preserved : goal.loop-place-preserved
loop-place-preserved g c = all_more g.row.P c.args.cells.now c.args.to.now c.args.chains.now c.loop-place.all.items c.push.new.self.items c.index-chains-place.result c.in_ok-read_chain.field-0 c.loop-place.place (omega (arith, c.loop-place-test.true)) c.index-chains-place.is c.in_ok-push.ensures.items c.in_ok-read_chain.ensures c.loop-place.invariant
