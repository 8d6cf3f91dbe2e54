use Rattle.std.proofs.Common.{◌≡◌, take}
use Rattle.cube_sets.specs.Changes.{changed}
use Rattle.cube_sets.proofs.spread.all_changed.Given as goal

abbrev pub invariant-loop-cell : goal.invariant-loop-cell
invariant-loop-cell l = l.all.items ≡ changed l.change l.axis (take l.cell-index l.cells)
