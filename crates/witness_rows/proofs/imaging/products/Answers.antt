use Rattle.std.proofs.lemmas.Result.{IfOk-weaker}
use Rattle.chain_lists.specs.Lists.{IsTranspose}
use Rattle.witness_rows.specs.Rows.{AreProducts}
use Rattle.witness_rows.proofs.Imaged.{products_are}
use Rattle.witness_rows.proofs.imaging.products.Goals as goal

pub returns-clause-value : goal.returns-clause-value
returns-clause-value g c = IfOk-weaker c.transposed.result (λ rows. IsTranspose g.row.P c.args.count c.deref.result.now rows.items) (λ rows. AreProducts g.row.P c.args.count c.args.images.now c.args.cycles.now rows.items)
    (λ rows t. products_are g.row.P c.args.count c.args.images.now c.args.cycles.now c.in_ok-sums.sums.items c.deref.result.now rows.items c.deref.ensures.value c.in_ok-sums.ensures.count c.in_ok-sums.ensures.value t) c.transposed.ensures.value
