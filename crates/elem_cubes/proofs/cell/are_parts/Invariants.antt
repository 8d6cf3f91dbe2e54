use Rattle.std.proofs.Common.{◌≡◌, drop}
use Rattle.elem_cubes.specs.Cells.{cell_of}
use Rattle.elem_cubes.specs.Faces.{is_face}
use Rattle.elem_cubes.proofs.cell.are_parts.Given as goal

abbrev pub invariant-loop-i : goal.invariant-loop-i
invariant-loop-i l =
    is_face (cell_of (drop l.i l.ends) l.rest) (cell_of (drop l.i l.other_ends) l.other_rest)
    ≡ is_face (cell_of l.ends l.fn.axes) (cell_of l.other_ends l.fn.other_axes)
