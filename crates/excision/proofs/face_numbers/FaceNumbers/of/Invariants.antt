use Rattle.std.proofs.Common.{◌≡◌, map, take}
use Rattle.excision.specs.Numbers.{face_numbers}
use Rattle.excision.proofs.face_numbers.FaceNumbers.of.Given as goal

abbrev pub invariant-loop-cell : goal.invariant-loop-cell
invariant-loop-cell l = map (λ r. r.items) l.rows.items ≡ map (face_numbers l.cells) (take l.cell-index l.cell-items)
