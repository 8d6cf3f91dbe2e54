use Rattle.std.proofs.Common.{◌≡◌, drop, length}
use Rattle.excision.specs.Known.{mask_from}
use Rattle.excision.specs.Numbers.{is_taken}
use Rattle.excision.proofs.movable.mask_of.Given as goal

abbrev pub invariant-loop-face : goal.invariant-loop-face
invariant-loop-face g l = mask_from l.mask (is_taken (length l.log.complex.boundaries) l.log.steps) (drop l.face-index l.faces) ≡ mask_from 0 (is_taken (length l.log.complex.boundaries) l.log.steps) l.faces
