use Rattle.set_tools.specs.Jobs.{neighbours_job}
use Rattle.tool.proofs.Lifting.{lifts}
use Rattle.all_tools.specs.Jobs.{x_of}
use Rattle.all_tools.proofs.answers.neighbours_output.Goals as goal

pub returns : goal.returns
returns g c =
    lifts (neighbours_job (x_of c.args.command.now)) (g.F.Files.seen c.args.files.now) (g.F.Files.seen c.neighbours_answer.new.files) c.neighbours_answer.result c.alone.result
    c.alone.ensures c.neighbours_answer.ensures
