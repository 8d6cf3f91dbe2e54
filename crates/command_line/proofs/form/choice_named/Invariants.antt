use Rattle.std.proofs.Common.{◌≡◌, drop}
use Rattle.command_line.specs.Forms.{named, option_name}
use Rattle.command_line.proofs.form.choice_named.Given as goal

abbrev pub invariant-loop-choice : goal.invariant-loop-choice
invariant-loop-choice l = named option_name (drop l.choice-index l.choices) l.word ≡ named option_name l.choices l.word
