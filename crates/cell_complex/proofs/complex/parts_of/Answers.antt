use Rattle.std.proofs.Common.{arith, refl, []}
use Rattle.cell_complex.proofs.Collecting.{degrees_more, boundaries_more, partial_all}
use Rattle.cell_complex.proofs.complex.parts_of.Goals as goal

pub loop-number-preserved : goal.loop-number-preserved
loop-number-preserved g c = record {
  degrees = degrees_more c.args.cells.now c.cell_near-cell.result c.loop-number.number c.degree_of.result c.loop-number.degrees.items c.push.new.self.items
      (omega (arith, c.loop-number-test.true, c.len-number-end.ensures.count)) c.loop-number.invariant.degrees c.cell_near-cell.ensures c.degree_of.ensures c.in_ok-push.ensures.items;
  boundaries = boundaries_more g.row.P c.args.cells.now c.cell_near-cell.result c.loop-number.number c.loop-number.boundaries.items c.push-in-loop-number.new.self.items c.in_ok-boundary.boundary
      c.loop-number.invariant.boundaries c.cell_near-cell.ensures c.in_ok-push-2.ensures.items
      (partial_all g.row.P c.args.cells.now c.cell_near-cell.result [] c.deref.result.now c.in_ok-boundary.boundary
      (rw c.deref.ensures.value c.in_ok-add_facets.ensures) refl c.in_ok-boundary.ensures.normal c.in_ok-boundary.ensures.sum);
}
