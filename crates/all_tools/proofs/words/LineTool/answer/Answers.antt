use Rattle.std.proofs.Common.{ℕ, List, Err, subst}
use Rattle.std.proofs.lemmas.Result.{err_from_is_err_and}
use Rattle.command_line.specs.declared.form.ToolName.{ToolName}
use Rattle.command_line.specs.Forms.{spoken}
use Rattle.command_line.specs.Words.{command_of}
use Rattle.tool.specs.Tasks.{Provides}
use Rattle.all_tools.specs.Jobs.{task_by}
use Rattle.all_tools.specs.Lines.{asked}
use Rattle.all_tools.proofs.Asking.{words_refused, command_answered}
use Rattle.all_tools.proofs.words.LineTool.answer.Goals as goal

pub returns-in_err-command : goal.returns-in_err-command
returns-in_err-command g c =
    let seen = g.F.Files.seen c.args.files.now in
    let fault = c.in_err-command.field-0.0 in
    let p = err_from_is_err_and c.from_residual.result c.from_residual.ensures.1 in
    rw (p.1, p.2) (subst (λ (words : List (List ℕ)). Provides (asked words) seen seen (Err fault)) c.self.view_is
    (words_refused (command_of (spoken c.self.inside.words.now)) seen fault c.in_err-command.ensures))

pub returns : goal.returns
returns g c =
    let old = g.F.Files.seen c.args.files.now in
    let new = g.F.Files.seen c.answer_by.new.files in
    subst (λ (words : List (List ℕ)). Provides (asked words) old new c.answer_by.result) c.self.view_is
    (command_answered (command_of (spoken c.self.inside.words.now)) old new c.in_ok-command.command c.answer_by.result c.in_ok-command.ensures
    (subst (λ (tool : ToolName). Provides (task_by tool c.in_ok-command.command) old new c.answer_by.result) c.tool.ensures c.answer_by.ensures))
