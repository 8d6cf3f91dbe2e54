use Rattle.chain_selector.specs.Selections.{Extends, IsSelection}
use Rattle.chain_selector.proofs.Settling.{AreSettled}
use Rattle.chain_selector.proofs.selector.Selector.settle_faces.Given as goal

abbrev pub invariant-loop-face : goal.invariant-loop-face
invariant-loop-face g l = record {
  extends : Extends l.fn.self l.self;
  selection : IsSelection g.row.P l.self;
  settled : AreSettled l.self l.cell l.dimension l.face-iterator;
}
