use Rattle.std.proofs.Common.{◌∙◌, None, Some, sym}
use Rattle.parsing.proofs.Finding.{setting_more}
use Rattle.parsing.proofs.found.add_settings.Goals.{in-Some+in_ok-add_setting, in_default}
use Rattle.parsing.proofs.found.add_settings.Goals as goal

pub loop-choice-preserved : goal.loop-choice-preserved
loop-choice-preserved c = λ said finds. elim c.match-branch-2.branch [
  | in-Some+in_ok-add_setting w ↦
      setting_more c.args.options.now c.loop-choice.choice-index _ (Some w.in-Some.setting) said.settings c.loop-choice.arguments c.match-branch-2.arguments _
      c.loop-choice-test.true (sym w.in-Some.is ∙ c.in_ok-setting.ensures said finds) (w.arguments-is ∙ w.in_ok-add_setting.ensures) (c.loop-choice.invariant said finds)
  | in_default w ↦
      setting_more c.args.options.now c.loop-choice.choice-index _ None said.settings c.loop-choice.arguments c.match-branch-2.arguments _
      c.loop-choice-test.true (sym w.in_default.is ∙ c.in_ok-setting.ensures said finds) w.arguments-is (c.loop-choice.invariant said finds)
]
