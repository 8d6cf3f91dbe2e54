use Rattle.std.proofs.Common.{◌∙◌, arith, length, ◌<◌}
use Rattle.elem_cubes.proofs.Walking.{prefix_more, turned_next}
use Rattle.elem_cubes.proofs.faces.next_axis.Goals as goal

pub loop-axis-preserved : goal.loop-axis-preserved
loop-axis-preserved c =
    let h : c.loop-axis.axis < length c.args.cell.now = omega (arith, c.len.ensures.len) in
    record {
      within = omega arith;
      same = prefix_more c.args.cell.now c.loop-axis.axis c.args.wide c.is_wide.result h c.is_wide.ensures c.if-is_wide-wide.true ∙ c.loop-axis.invariant.same;
      signed = turned_next c.args.cell.now c.loop-axis.axis c.loop-axis.turned c.is_wide-turned.result h c.is_wide-turned.ensures c.loop-axis.invariant.signed;
    }
