use Rattle.std.proofs.Common.{◌≡◌, take}
use Rattle.std.specs.List.{filter}
use Rattle.excision.specs.Excision.{touches}
use Rattle.excision.proofs.excising.near_members.Given as goal

abbrev pub invariant-loop-cell : goal.invariant-loop-cell
invariant-loop-cell l = l.near.items ≡ filter (touches l.x.cells) (take l.cell-index l.a.cells)
