use Rattle.std.proofs.Common.{◌∙◌, ap, sym}
use Rattle.std.specs.List.{list_all}
use Rattle.elem_cubes.specs.Cells.{is_file_factor, cell_of}
use Rattle.elem_cubes.proofs.Keeping.{parts_kept}
use Rattle.elem_cubes.proofs.cell.Cell.in_range.Goals as goal

pub returns : goal.returns
returns c =
    c.are_within.ensures
    ∙ ap (λ ls. list_all is_file_factor (cell_of ls c.self.inside.axes)) c.low_ends.ensures
    ∙ ap (list_all is_file_factor) (sym (parts_kept c.self.inside.ends c.self.inside.len c.self.inside.axes c.args.self.now c.self.invariant c.self.view_is))
