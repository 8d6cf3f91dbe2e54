use Rattle.std.proofs.Common.{arith}
use Rattle.map_checks.specs.Faults.{together, Leaves}
use Rattle.map_checks.proofs.Firsts.{first_at, none_at, none_more}
use Rattle.map_checks.proofs.Leaving.{leaves, stays}
use Rattle.map_checks.proofs.sets.first_leaving.Goals as goal

pub returns-in-Some : goal.returns-in-Some
returns-in-Some c =
    let set = together c.args.y.now.cells c.args.b.now.cells in
    first_at c.args.cubes.now c.requires (Leaves c.args.map.now.named set) c.loop-cube.cube-index c.cube-item.result c.loop-cube-test.true c.cube-item.is
    (leaves c.args.map.now.named set c.cube-item.result c.in-Some.field-0 c.in-Some.ensures) c.loop-cube.invariant

pub loop-cube-preserved : goal.loop-cube-preserved
loop-cube-preserved c =
    let set = together c.args.y.now.cells c.args.b.now.cells in
    none_more c.args.cubes.now (Leaves c.args.map.now.named set) c.loop-cube.cube-index c.cube-item.result c.loop-cube-test.true c.cube-item.is
    (stays c.args.map.now.named set c.cube-item.result c.in_default.ensures) c.loop-cube.invariant

pub returns : goal.returns
returns c = none_at c.args.cubes.now (Leaves c.args.map.now.named (together c.args.y.now.cells c.args.b.now.cells)) (λ k l p. c.loop-cube.invariant k (omega arith) p)
