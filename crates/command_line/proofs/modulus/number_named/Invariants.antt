use Rattle.std.proofs.Common.{◌≡◌, drop, decimal}
use Rattle.command_line.specs.Forms.{named}
use Rattle.command_line.proofs.modulus.number_named.Given as goal

abbrev pub invariant-loop-number : goal.invariant-loop-number
invariant-loop-number l = named decimal (drop l.number-index l.numbers) l.word ≡ named decimal l.numbers l.word
