use Rattle.std.proofs.Common.{ℕ, arith, subst}
use Rattle.witness_parts.specs.Filed.{AddsChains}
use Rattle.witness_parts.specs.Tables.{section_by}
use Rattle.witness_parts.proofs.Degrees.{chains_none, chains_more}
use Rattle.witness_parts.proofs.pair.push_cocycles.Goals as goal

pub loop-number-init : goal.loop-number-init
loop-number-init g c = chains_none g.row.P c.args.all.now ((section_by g.row.P c.args.cells.now c.args.basis.now).cocycle c.args.degree) c.args.to.now.items

pub loop-number-preserved : goal.loop-number-preserved
loop-number-preserved g c =
    chains_more g.row.P c.args.all.now c.loop-number.number ((section_by g.row.P c.args.cells.now c.args.basis.now).cocycle c.args.degree) c.args.to.now.items c.loop-number.to.items
    c.push.new.self.items c.in_ok-cocycle.cocycle c.loop-number.invariant c.in_ok-push.ensures.items c.in_ok-cocycle.ensures

pub returns : goal.returns
returns g c =
    subst (λ (n : ℕ). AddsChains g.row.P c.args.all.now n ((section_by g.row.P c.args.cells.now c.args.basis.now).cocycle c.args.degree) c.args.to.now.items c.loop-number.to.items)
    (omega (arith, c.loop-number-test.false, c.dimension-number-end.ensures.dimension)) c.loop-number.invariant
