use Rattle.std.proofs.Common.{◌≡◌, length}
use Rattle.face_reduction.specs.Cofaces.{CountCofaces}
use Rattle.face_reduction.specs.Logs.{IsCollapse}
use Rattle.face_reduction.proofs.Taking.{left_count}
use Rattle.face_reduction.proofs.rising.take_waiting.Given as goal

abbrev pub invariant-pairs : goal.invariant-pairs
invariant-pairs g l = record {
  complex : l.log.complex ≡ l.fn.log.complex;
  collapse : IsCollapse l.cells l.fn.log.steps l.log.steps;
  tallies : CountCofaces l.log.complex l.log.steps l.tallies;
}

abbrev pub decreases-pairs : goal.decreases-pairs
decreases-pairs g l = left_count (length l.cells) l.log.steps
