use Rattle.std.proofs.Common.{◌≡◌, drop}
use Rattle.command_line.specs.Forms.{are_once}
use Rattle.command_line.proofs.arguments.are_once.Given as goal

abbrev pub invariant-loop-at : goal.invariant-loop-at
invariant-loop-at l = are_once (drop l.at l.settings) ≡ are_once l.settings
