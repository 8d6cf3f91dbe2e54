use Rattle.std.proofs.Common.{◌≡◌, ◌++◌, map}
use Rattle.cell_complex.specs.Numbering.{number_of}
use Rattle.excision.specs.Numbers.{face_numbers}
use Rattle.excision.proofs.face_numbers.numbers_of.Given as goal

abbrev pub invariant-loop-face : goal.invariant-loop-face
invariant-loop-face l = l.numbers.items ++ map (number_of l.cells) l.face-iterator ≡ face_numbers l.cells l.cell
