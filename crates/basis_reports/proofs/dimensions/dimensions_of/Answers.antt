use Rattle.std.proofs.Common.{ℕ, List, refl, sym, subst, length}
use Rattle.basis_reports.specs.Counting.{HasBases}
use Rattle.basis_reports.proofs.RightPairs.{has_bases}
use Rattle.basis_reports.proofs.dimensions.dimensions_of.Goals as goal

pub returns-clause-bases : goal.returns-clause-bases
returns-clause-bases g c =
    let p = g.row.P in
    let log = c.args.log.now in
    subst (λ (counts : List ℕ). HasBases p log.complex c.args.most counts) (sym c.of.ensures)
    (has_bases p log.complex log.steps c.args._field.listed c.step_count-steps.ensures.complex c.step_count-steps.ensures.steps c.requires
    c.args.most (length log.complex.boundaries) c.in_ok-counts.counts.items refl c.in_ok-counts.ensures)
