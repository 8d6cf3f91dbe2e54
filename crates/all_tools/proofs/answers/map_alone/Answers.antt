use Rattle.map_homology.specs.Jobs.{map_job}
use Rattle.tool.proofs.Lifting.{lifts}
use Rattle.all_tools.specs.Jobs.{map_of}
use Rattle.all_tools.proofs.answers.map_alone.Goals as goal

pub returns : goal.returns
returns g c =
    lifts (map_job (map_of c.args.command.now)) (g.F.Files.seen c.args.files.now) (g.F.Files.seen c.map_answer.new.files) c.map_answer.result c.alone.result
    c.alone.ensures c.map_answer.ensures
