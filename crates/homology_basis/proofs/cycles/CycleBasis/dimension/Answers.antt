use Rattle.std.proofs.Common.{◌≡◌, arith, ap, length}
use Rattle.homology_basis.specs.Bases.{in_degree}
use Rattle.homology_basis.proofs.ByDegree.{count_in}
use Rattle.homology_basis.proofs.cycles.CycleBasis.dimension.Goals as goal

pub overflow_cast-result : goal.overflow_cast-result
overflow_cast-result g c =
    let few = c.self.invariant.few c.args.k in
    let short = c.self.invariant.complex.short in
    let e = count_in c.self.inside.classes c.args.k in
    let f : length c.of_degree.result.now ≡ length (in_degree c.self.inside.classes c.args.k) = ap length c.of_degree.ensures in
    omega arith
