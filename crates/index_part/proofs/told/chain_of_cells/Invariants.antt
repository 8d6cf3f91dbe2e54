use Rattle.std.proofs.Common.{◌≡◌, take}
use Rattle.cell_complex.specs.Numbering.{cell_terms}
use Rattle.index_part.proofs.told.chain_of_cells.Given as goal

abbrev pub invariant-loop-i : goal.invariant-loop-i
invariant-loop-i g l = l.named.items ≡ cell_terms l.cells (take l.i l.chain)
