use Rattle.homology_basis.proofs.Beginning.{times_one}
use Rattle.homology_basis.proofs.class.scaled.Goals as goal

pub returns-then-scale-eq1-clause-value : goal.returns-then-scale-eq1-clause-value
returns-then-scale-eq1-clause-value g c = times_one g.row.P c.args.scale c.args.chain c.requires c.if-scale-eq1.true c.if-is_empty.ensures.normal
