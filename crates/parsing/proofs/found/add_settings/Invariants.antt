use Rattle.std.proofs.Common.{◌≡◌, drop}
use Rattle.clap.specs.Words.{found_of, rows_of}
use Rattle.command_line.specs.Forms.{Spoken}
use Rattle.parsing.specs.Found.{Finds}
use Rattle.parsing.proofs.Finding.{with_settings}
use Rattle.parsing.proofs.found.add_settings.Given as goal

abbrev pub invariant-loop-choice : goal.invariant-loop-choice
invariant-loop-choice l = (said : Spoken) → Finds said (rows_of (found_of l.matches)) → with_settings l.arguments (drop l.choice-index l.options) said.settings ≡ with_settings l.fn.arguments l.options said.settings
