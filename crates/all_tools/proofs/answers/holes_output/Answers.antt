use Rattle.gen_tool.specs.Jobs.{holes_job}
use Rattle.tool.proofs.Lifting.{lifts}
use Rattle.all_tools.specs.Jobs.{holes_of}
use Rattle.all_tools.proofs.answers.holes_output.Goals as goal

pub returns : goal.returns
returns g c =
    lifts (holes_job (holes_of c.args.command.now)) (g.F.Files.seen c.args.files.now) (g.F.Files.seen c.holes_answer.new.files) c.holes_answer.result c.alone.result
    c.alone.ensures c.holes_answer.ensures
