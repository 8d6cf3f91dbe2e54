-- The word is looked for among the numbers that are left as among all.
use Rattle.std.proofs.Common.{◌≡◌, ◌-◌, ◌+◌, decimal}
use Rattle.std.specs.List.{range_with_len}
use Rattle.command_line.specs.Operands.{named}
use Rattle.command_line.proofs.operands.number_from.Given as goal

abbrev pub invariant-loop-number : goal.invariant-loop-number
invariant-loop-number l = named decimal (range_with_len l.number (l.least + l.count - l.number)) l.word ≡ named decimal (range_with_len l.least l.count) l.word
