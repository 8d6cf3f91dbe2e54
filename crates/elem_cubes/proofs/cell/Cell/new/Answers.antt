use Rattle.std.proofs.Common.{◌∙◌, ap, sym}
use Rattle.std.specs.Prelude.{Some, None}
use Rattle.std.specs.List.{list_all}
use Rattle.elem_cubes.specs.Cells.{is_factor, cell_of}
use Rattle.elem_cubes.proofs.Making.{new_kept, new_seen, makes}
use Rattle.elem_cubes.proofs.cell.Cell.new.Goals as goal

pub invariant_of-result : goal.invariant_of-result
invariant_of-result c =
    new_kept c.lower.inside.ends c.lower.inside.len c.args.axes c.args.lower c.lower.invariant c.lower.view_is c.if-axes-lower-ne0.false
    (ap (λ xs. list_all is_factor (cell_of xs c.args.axes)) (sym c.coordinates.ensures.coordinates) ∙ sym c.are_within.ensures ∙ c.if-not-are_within.false)

pub returns : goal.returns
returns c =
    ap (λ xs. Some (cell_of xs c.args.axes)) c.lower.view_is
    ∙ makes c.args.lower c.args.axes (Some (cell_of c.args.lower c.args.axes)) None
    (new_seen c.lower.inside.ends c.lower.inside.len c.args.axes c.args.lower c.lower.invariant c.lower.view_is c.if-axes-lower-ne0.false
    (ap (λ xs. list_all is_factor (cell_of xs c.args.axes)) (sym c.coordinates.ensures.coordinates) ∙ sym c.are_within.ensures ∙ c.if-not-are_within.false))
