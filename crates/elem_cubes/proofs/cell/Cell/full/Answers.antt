use Rattle.std.proofs.Common.{◌∙◌, ap, cond, take}
use Rattle.std.specs.Prelude.{Some, None}
use Rattle.elem_cubes.specs.Cells.{is_cell, full_cell}
use Rattle.elem_cubes.proofs.Making.{makes_full}
use Rattle.elem_cubes.proofs.cell.Cell.full.Goals as goal

pub returns : goal.returns
returns c =
    let m = makes_full (take c.lower.inside.len c.lower.inside.ends) c.all_axes.result c.lower.inside.len c.lower.invariant.long c.all_axes.ensures in
    c.new.ensures ∙ (λ i. cond (m.0 i) (Some (m.1 i)) None) ∙ ap (λ ls. cond (is_cell (full_cell ls)) (Some (full_cell ls)) None) c.lower.view_is
