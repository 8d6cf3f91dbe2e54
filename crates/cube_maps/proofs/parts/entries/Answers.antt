use Rattle.std.proofs.Common.{◌≡◌, sym, ◌+◌, length, arith}
use Rattle.cube_maps.proofs.Steps.{groups}
use Rattle.cube_maps.proofs.parts.entries.Goals as goal

pub loop-cube-preserved : goal.loop-cube-preserved
loop-cube-preserved c =
    let e = c.in_ok-value.ensures in
    let n : c.loop-cube.at + length c.in_ok-value.value.items ≡ c.in_ok-value.next = omega arith in
    rw c.in_ok-push.ensures.items (groups c.args.cubes.now c.args.pairs.now c.loop-cube.entries.items c.loop-cube.cube-index c.loop-cube.at c.in_ok-value.next c.cube-item.result
    c.in_ok-value.value.items c.loop-cube.invariant c.loop-cube-test.true (sym c.cube-item.is) e.values e.others n e.within)
