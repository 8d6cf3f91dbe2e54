use Rattle.std.proofs.Common.{◌≡◌}
use Rattle.face_reduction.specs.Cofaces.{CountCofaces}
use Rattle.face_reduction.specs.Logs.{IsCollapse}
use Rattle.face_reduction.proofs.rising.take_rising.Given as goal

abbrev pub invariant-faces : goal.invariant-faces
invariant-faces g l = record {
  complex : l.log.complex ≡ l.fn.log.complex;
  collapse : IsCollapse l.cells l.fn.log.steps l.log.steps;
  tallies : CountCofaces l.log.complex l.log.steps l.tallies;
}
