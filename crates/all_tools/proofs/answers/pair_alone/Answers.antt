use Rattle.pair_tool.specs.Jobs.{pair_job}
use Rattle.tool.proofs.Lifting.{lifts}
use Rattle.all_tools.specs.Jobs.{pair_of}
use Rattle.all_tools.proofs.answers.pair_alone.Goals as goal

pub returns : goal.returns
returns g c =
    lifts (pair_job (pair_of c.args.command.now)) (g.F.Files.seen c.args.files.now) (g.F.Files.seen c.pair_answer.new.files) c.pair_answer.result c.alone.result
    c.alone.ensures c.pair_answer.ensures
