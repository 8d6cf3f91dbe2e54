use Rattle.std.proofs.Common.{◌≡◌, length}
use Rattle.face_reduction.specs.Cofaces.{AreTallies, is_coface}
use Rattle.face_reduction.proofs.cofaces.cofaces_of.Given as goal

abbrev pub invariant-loop-coface : goal.invariant-loop-coface
invariant-loop-coface g l = record {
  size : length l.tallies.items ≡ length l.log.complex.boundaries;
  tallies : AreTallies l.coface (is_coface l.log.complex l.log.steps) l.tallies.items;
}
