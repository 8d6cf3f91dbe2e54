use Rattle.chain_selector.specs.Selections.{Extends, IsSelection}
use Rattle.chain_selector.specs.Right.{HasKeptFaces}
use Rattle.chain_selector.proofs.selector.Selector.settle.Given as goal

abbrev pub invariant-loop-dimension : goal.invariant-loop-dimension
invariant-loop-dimension g l = record {
  extends : Extends l.fn.self l.self;
  selection : IsSelection g.row.P l.self;
  kept : HasKeptFaces l.self l.cell l.dimension;
}
