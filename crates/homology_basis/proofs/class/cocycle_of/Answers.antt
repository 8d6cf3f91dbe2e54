use Rattle.std.proofs.Common.{length, ◌*◌}
use Rattle.field_mod.specs.Sums.{total}
use Rattle.chains.specs.Terms.{coefficient}
use Rattle.algebraic_reduction.specs.Reduction.{single}
use Rattle.algebraic_reduction.specs.Laws.{project_of}
use Rattle.homology_basis.proofs.Beginning.{scaled_projection}
use Rattle.homology_basis.proofs.class.cocycle_of.Goals as goal

pub returns-clause-inside : goal.returns-clause-inside
returns-clause-inside g c on = (scaled_projection g.row.P (length c.args.log.now.complex.boundaries) c.args.scale c.args.single.now c.in_ok-projected.projected c.in_ok-cocycle.cocycle
    (λ h. total (length c.args.log.now.complex.boundaries) (λ t. coefficient c.args.single.now t * project_of g.row.P c.args.log.now.complex c.args.log.now.steps (single h) t)) c.in_ok-projected.ensures.value c.in_ok-projected.ensures.past c.in_ok-cocycle.ensures.value).0

pub returns-clause-past : goal.returns-clause-past
returns-clause-past g c on = (scaled_projection g.row.P (length c.args.log.now.complex.boundaries) c.args.scale c.args.single.now c.in_ok-projected.projected c.in_ok-cocycle.cocycle
    (λ h. total (length c.args.log.now.complex.boundaries) (λ t. coefficient c.args.single.now t * project_of g.row.P c.args.log.now.complex c.args.log.now.steps (single h) t)) c.in_ok-projected.ensures.value c.in_ok-projected.ensures.past c.in_ok-cocycle.ensures.value).1
