use Rattle.set_tools.specs.Jobs.{cells_job}
use Rattle.tool.proofs.Lifting.{lifts}
use Rattle.all_tools.specs.Jobs.{x_of}
use Rattle.all_tools.proofs.answers.cells_output.Goals as goal

pub returns : goal.returns
returns g c =
    lifts (cells_job (x_of c.args.command.now)) (g.F.Files.seen c.args.files.now) (g.F.Files.seen c.cells_answer.new.files) c.cells_answer.result c.alone.result
    c.alone.ensures c.cells_answer.ensures
