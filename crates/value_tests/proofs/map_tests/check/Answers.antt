use Rattle.std.proofs.Common.{rules, ◌≡◌, true}
use Rattle.cube_sets.specs.Neighbours.{are_full}
use Rattle.map_checks.specs.Carriers.{AreOfOneDimension}
use Rattle.value_tests.proofs.Alike.{of_one_dimension}
use Rattle.value_tests.proofs.map_tests.check.Goals as goal

pub check_values-requires : goal.check_values-requires
check_values-requires c =
    let fx : are_full c.args.x.now.cells ≡ true = search rules in
    let fa : are_full c.args.a.now.cells ≡ true = search rules in
    let fy : are_full c.args.y.now.cells ≡ true = search rules in
    let fb : are_full c.args.b.now.cells ≡ true = search rules in
    let m : c.args.map.now.dimension ≡ c.args.x.now.dimension = search rules in
    let n : c.args.a.now.dimension ≡ c.args.x.now.dimension = search rules in
    let o : c.args.y.now.dimension ≡ c.args.x.now.dimension = search rules in
    let p : c.args.b.now.dimension ≡ c.args.x.now.dimension = search rules in
    let one : AreOfOneDimension c.args.map.now c.args.x.now c.args.a.now c.args.y.now c.args.b.now =
    of_one_dimension c.args.map.now c.args.x.now c.args.a.now c.args.y.now c.args.b.now fx fa fy fb m n o p in
    search rules
