use Rattle.std.proofs.Common.{◌≡◌, drop}
use Rattle.clap.specs.Words.{app_of}
use Rattle.parsing.specs.Syntax.{syntax}
use Rattle.parsing.proofs.Finding.{more_rules}
use Rattle.parsing.proofs.syntax.syntax_of.Given as goal

abbrev pub invariant-loop-choice : goal.invariant-loop-choice
invariant-loop-choice l = more_rules (app_of l.command) (drop l.choice-index l.choice-items) ≡ syntax l.form
