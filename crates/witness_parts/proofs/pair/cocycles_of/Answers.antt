use Rattle.std.proofs.Common.{sym, subst}
use Rattle.witness_parts.specs.Filed.{HasChains}
use Rattle.witness_parts.specs.Tables.{section_by}
use Rattle.witness_parts.proofs.Degrees.{no_chains, chains_degree_more}
use Rattle.witness_parts.proofs.pair.cocycles_of.Goals as goal

pub loop-degree-init : goal.loop-degree-init
loop-degree-init g c =
    let s = section_by g.row.P c.args.cells.now c.args.basis.now in
    subst (HasChains g.row.P c.args.all.now 0 s.size s.cocycle) (sym c.new-cocycles.ensures.items) (no_chains g.row.P c.args.all.now s.size s.cocycle)

pub loop-degree-preserved : goal.loop-degree-preserved
loop-degree-preserved g c =
    let s = section_by g.row.P c.args.cells.now c.args.basis.now in
    chains_degree_more g.row.P c.args.all.now s.size s.cocycle c.loop-degree.degree c.loop-degree.cocycles.items c.push_cocycles.new.to.items c.loop-degree.invariant c.in_ok-push_cocycles.ensures
