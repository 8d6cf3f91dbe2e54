use Rattle.map_homology.proofs.Basing.{basis_prepared}
use Rattle.map_homology.proofs.bases.domain_basis.Goals as goal

pub returns-clause-basis : goal.returns-clause-basis
returns-clause-basis g c =
    basis_prepared g.row.P c.args.x.now.cells c.args.a.now.cells c.in_ok-cells.cells c.in_ok-cells.log c.in_ok-basis.basis c.in_ok-cells.ensures.prepared c.in_ok-basis.ensures.log c.in_ok-basis.ensures.basis
