use Rattle.algebraic_reduction.proofs.Start.{state_start}
use Rattle.algebraic_reduction.proofs.parts.start_parts.Goals as goal

pub returns-clause-state : goal.returns-clause-state
returns-clause-state g c =
    let e = c.len.ensures in
    rw c.in_ok-steps.ensures.items (state_start g.row.P c.len.result c.args.complex c.in_ok-places.places.items e.complex e.count c.in_ok-places.ensures.count c.in_ok-places.ensures.none)
