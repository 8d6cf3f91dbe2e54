use Rattle.map_parts.proofs.Tabled.{one_table}
use Rattle.map_parts.proofs.witness.see_tables.Goals as goal

pub loop-place-preserved : goal.loop-place-preserved
loop-place-preserved g c =
    one_table g.row.P c.args.matrices.now c.loop-place.place c.index-matrices-place.result c.loop-place-test.true c.index-matrices-place.is c.rows-rows.ensures.table c.loop-place.invariant
