use Rattle.std.proofs.Common.{arith}
use Rattle.std.proofs.lemmas.Result.{IfOk-weaker}
use Rattle.chain_lists.specs.Lists.{IsTranspose, AreSums}
use Rattle.chain_lists.proofs.Gathering.{columns_end}
use Rattle.chain_lists.proofs.transposes.transposed.Goals as goal

pub returns-clause-value : goal.returns-clause-value
returns-clause-value g c =
    IfOk-weaker c.sums_of.result
    (λ rows. AreSums g.row.P c.loop-place.gathered rows.items)
    (λ rows. IsTranspose g.row.P c.args.count c.args.chains.now rows.items)
    (λ rows s. columns_end g.row.P c.args.count c.args.chains.now c.loop-place.gathered rows.items c.loop-place.place (omega (arith, c.loop-place-test.false)) c.loop-place.invariant s)
    c.sums_of.ensures
