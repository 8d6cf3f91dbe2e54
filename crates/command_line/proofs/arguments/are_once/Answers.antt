use Rattle.std.proofs.Common.{sym, ap, ◌∙◌, false, cond, drop, ◌+◌}
use Rattle.command_line.specs.Forms.{are_once}
use Rattle.command_line.proofs.Tables.{once_at}
use Rattle.command_line.proofs.arguments.are_once.Goals as goal

pub loop-at-preserved : goal.loop-at-preserved
loop-at-preserved c =
    sym (once_at c.args.settings.now c.loop-at.at c.index-settings-at.result c.is_set.result c.loop-at-test.true c.index-settings-at.is c.is_set.ensures
    ∙ ap (λ b. cond b false (are_once (drop (c.loop-at.at + 1) c.args.settings.now))) c.if-is_set.false)
    ∙ c.loop-at.invariant

pub returns-then-is_set : goal.returns-then-is_set
returns-then-is_set c =
    sym (sym c.loop-at.invariant ∙ once_at c.args.settings.now c.loop-at.at c.index-settings-at.result c.is_set.result c.loop-at-test.true c.index-settings-at.is c.is_set.ensures
    ∙ ap (λ b. cond b false (are_once (drop (c.loop-at.at + 1) c.args.settings.now))) c.if-is_set.true)
