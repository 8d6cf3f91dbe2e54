use Rattle.elem_cubes.proofs.Bits.{parts_of_cell}
use Rattle.elem_cubes.specs.OrderLemmas.{same_corners}
use Rattle.elem_cubes.proofs.laws.cells_have_parts.Goals as goal

pub returns : goal.returns
returns c = record { axes = parts_of_cell; corners = same_corners }
