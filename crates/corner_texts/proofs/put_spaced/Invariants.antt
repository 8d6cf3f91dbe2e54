use Rattle.std.proofs.Common.{◌≡◌, ◌++◌, take}
use Rattle.corner_texts.specs.CornerText.{spaced}
use Rattle.corner_texts.proofs.put_spaced.Given as goal

abbrev pub invariant-loop-number : goal.invariant-loop-number
invariant-loop-number l = l.to.items ≡ l.initial.to.items ++ spaced (take l.number-index l.numbers)
