use Rattle.std.proofs.Common.{◌∙◌, ap}
use Rattle.clap.specs.Words.{app_of, with_rule}
use Rattle.parsing.specs.Syntax.{syntax}
use Rattle.parsing.proofs.Finding.{rules_end, rules_more, rules_start}
use Rattle.parsing.proofs.syntax.syntax_of.Goals as goal

pub loop-choice-init : goal.loop-choice-init
loop-choice-init c =
    rules_start c.args.form.now c.name-name.result.now c.options-choice-items.result.now (app_of c.in_ok-command.command) c.name-name.ensures c.options-choice-items.ensures
    (c.in_ok-command.ensures.shape c.operands.ensures.local ∙ (λ j. with_rule (c.bare_command.ensures j) (c.operands.ensures.rule j)))

pub loop-choice-preserved : goal.loop-choice-preserved
loop-choice-preserved c =
    rules_more c.options-choice-items.result.now c.loop-choice.choice-index _ (app_of c.loop-choice.command) (app_of c.in_ok-command-2.command) (syntax c.args.form.now) c.loop-choice-test.true
    (c.in_ok-command-2.ensures.shape c.option.ensures.local ∙ ap (with_rule (app_of c.loop-choice.command)) c.option.ensures.rule) c.loop-choice.invariant

pub returns : goal.returns
returns c = rules_end c.options-choice-items.result.now c.loop-choice.choice-index (app_of c.loop-choice.command) (syntax c.args.form.now) c.loop-choice-test.false c.loop-choice.invariant
