use Rattle.map_homology.specs.Bases.{cycles_alone}
use Rattle.map_homology.proofs.Basing.{basis_prepared, without_cocycles}
use Rattle.map_homology.proofs.bases.range_basis.Goals as goal

pub returns-clause-basis : goal.returns-clause-basis
returns-clause-basis g c =
    basis_prepared g.row.P c.args.y.now.cells c.args.b.now.cells c.in_ok-cells.cells c.in_ok-cells.log (cycles_alone c.in_ok-basis.basis) c.in_ok-cells.ensures.prepared c.in_ok-basis.ensures.log (without_cocycles g.row.P c.in_ok-basis.basis c.in_ok-basis.ensures.basis)
