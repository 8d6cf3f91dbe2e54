use Rattle.std.proofs.Common.{sym, subst, List}
use Rattle.std.specs.List.{Contains}
use Rattle.std.proofs.lemmas.Bool.{false≢true}
use Rattle.elem_cubes.specs.Cells.{Factor}
use Rattle.cell_points.proofs.Searching.{absent_cell}
use Rattle.cell_points.proofs.points.Points.number.Goals as goal

pub returns-in_default-clause-found : goal.returns-in_default-clause-found
returns-in_default-clause-found c =
    let none = rw (c.deref.ensures.value, c.lower.ensures) at c.in_default.ensures.none in
    (λ e. absurd (false≢true e), λ w. absurd (absent_cell c.self.inside.places.items c.args.cell.now c.self.invariant.are none (subst (λ (cells : List (List Factor)). Contains cells c.args.cell.now) (sym c.self.view_is) w)))
