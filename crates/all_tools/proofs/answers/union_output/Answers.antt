use Rattle.set_tools.specs.declared.cubunion.Combination.TheVariants.{Union}
use Rattle.set_tools.specs.Jobs.{combination_job}
use Rattle.tool.proofs.Lifting.{lifts}
use Rattle.all_tools.specs.Jobs.{two_files}
use Rattle.all_tools.proofs.answers.union_output.Goals as goal

pub returns : goal.returns
returns g c =
    lifts (combination_job (two_files Union c.args.command.now)) (g.F.Files.seen c.args.files.now) (g.F.Files.seen c.combination_answer.new.files) c.combination_answer.result c.alone.result
    c.alone.ensures c.combination_answer.ensures
