use Rattle.excision.specs.Numbers.{face_numbers}
use Rattle.excision.proofs.Placing.{lists_more}
use Rattle.excision.proofs.face_numbers.FaceNumbers.of.Goals as goal

pub loop-cell-preserved : goal.loop-cell-preserved
loop-cell-preserved c = lists_more (λ r. r.items) (face_numbers c.args.cells.now) c.loop-cell.rows.items c.push.new.self.items c.in_ok-row.row c.cells-cell-items.result.now c.loop-cell.cell-index c.cell-item.result c.loop-cell-test.true c.cell-item.is c.in_ok-push.ensures.items c.in_ok-row.ensures c.loop-cell.invariant
