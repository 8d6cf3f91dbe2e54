use Rattle.map_tools.specs.Jobs.{values_job}
use Rattle.tool.proofs.Lifting.{lifts}
use Rattle.all_tools.specs.Jobs.{values_of}
use Rattle.all_tools.proofs.answers.values_output.Goals as goal

pub returns : goal.returns
returns g c =
    lifts (values_job (values_of c.args.command.now)) (g.F.Files.seen c.args.files.now) (g.F.Files.seen c.values_answer.new.files) c.values_answer.result c.alone.result
    c.alone.ensures c.values_answer.ensures
