use Rattle.std.proofs.Common.{◌≡◌, ◌++◌, take}
use Rattle.witness_laws.specs.Lines.{numbers_text}
use Rattle.witness_lines.proofs.parts.put_numbers.Given as goal

abbrev pub invariant-loop-number : goal.invariant-loop-number
invariant-loop-number l = l.to.items ≡ l.initial.to.items ++ numbers_text (take l.number-index l.numbers)
