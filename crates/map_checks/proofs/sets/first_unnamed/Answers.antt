use Rattle.std.proofs.Common.{◌≡◌, false, arith}
use Rattle.cube_maps.specs.CubeMaps.{names}
use Rattle.map_checks.proofs.Firsts.{first_at, none_at}
use Rattle.map_checks.proofs.sets.first_unnamed.Goals as goal

pub returns-in_default : goal.returns-in_default
returns-in_default c =
    first_at c.args.cubes.now c.requires (λ q. names c.args.map.now.named q ≡ false) c.loop-cube.cube-index c.cube-item.result c.loop-cube-test.true c.cube-item.is c.in_default.ensures.none c.loop-cube.invariant

pub returns : goal.returns
returns c = none_at c.args.cubes.now (λ q. names c.args.map.now.named q ≡ false) (λ k l p. c.loop-cube.invariant k (omega arith) p)
