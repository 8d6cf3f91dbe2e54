use Rattle.std.proofs.Common.{sym, subst}
use Rattle.witness_parts.specs.Filed.{HasCycles}
use Rattle.witness_parts.specs.Tables.{section_by}
use Rattle.witness_parts.proofs.Degrees.{no_degrees, degree_more}
use Rattle.witness_parts.proofs.pair.cycles_of.Goals as goal

pub loop-degree-init : goal.loop-degree-init
loop-degree-init g c =
    let s = section_by g.row.P c.args.cells.now c.args.basis.now in
    subst (HasCycles g.row.P c.args.all.now 0 s.size s.cycle) (sym c.new-cycles.ensures.items) (no_degrees g.row.P c.args.all.now s.size s.cycle)

pub loop-degree-preserved : goal.loop-degree-preserved
loop-degree-preserved g c =
    let s = section_by g.row.P c.args.cells.now c.args.basis.now in
    degree_more g.row.P c.args.all.now s.size s.cycle c.loop-degree.degree c.loop-degree.cycles.items c.push_cycles.new.to.items c.loop-degree.invariant c.in_ok-push_cycles.ensures
