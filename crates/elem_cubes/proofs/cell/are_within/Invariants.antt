use Rattle.std.proofs.Common.{◌≡◌, drop}
use Rattle.std.specs.List.{list_all}
use Rattle.elem_cubes.specs.Cells.{is_within, cell_of}
use Rattle.elem_cubes.proofs.cell.are_within.Given as goal

abbrev pub invariant-loop-end : goal.invariant-loop-end
invariant-loop-end l =
    list_all (is_within l.fn.least l.fn.greatest) (cell_of (drop l.end-index l.ends) l.rest)
    ≡ list_all (is_within l.fn.least l.fn.greatest) (cell_of l.ends l.fn.axes)
