use Rattle.std.proofs.Common.{◌≡◌, drop}
use Rattle.command_line.specs.Forms.{setting_of}
use Rattle.command_line.proofs.options.setting_of.Given as goal

abbrev pub invariant-loop-setting : goal.invariant-loop-setting
invariant-loop-setting l = setting_of (drop l.setting-index l.settings) l.choice ≡ setting_of l.settings l.choice
