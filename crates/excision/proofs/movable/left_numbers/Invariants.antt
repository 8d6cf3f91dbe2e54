use Rattle.std.proofs.Common.{◌≡◌, length, take}
use Rattle.std.specs.Prelude.{not}
use Rattle.std.specs.List.{filter}
use Rattle.excision.specs.Numbers.{is_taken}
use Rattle.excision.proofs.movable.left_numbers.Given as goal

abbrev pub invariant-loop-face : goal.invariant-loop-face
invariant-loop-face g l = l.numbers.items ≡ filter (λ n. not (is_taken (length l.log.complex.boundaries) l.log.steps n)) (take l.face-index l.faces)
