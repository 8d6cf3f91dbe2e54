use Rattle.std.proofs.Common.{◌≡◌, ◌++◌, take}
use Rattle.witness_laws.specs.Lines.{numbers_text}
use Rattle.witness_scanning.proofs.fronts.after_numbers.Given as goal

abbrev pub invariant-loop-number : goal.invariant-loop-number
invariant-loop-number l = l.bytes ≡ numbers_text (take l.number-index l.numbers) ++ l.rest
