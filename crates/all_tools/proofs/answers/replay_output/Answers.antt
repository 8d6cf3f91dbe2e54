use Rattle.replay_tool.specs.Jobs.{replay_job}
use Rattle.tool.proofs.Lifting.{lifts}
use Rattle.all_tools.specs.Jobs.{replay_of}
use Rattle.all_tools.proofs.answers.replay_output.Goals as goal

pub returns : goal.returns
returns g c =
    lifts (replay_job (replay_of c.args.command.now)) (g.F.Files.seen c.args.files.now) (g.F.Files.seen c.replay_answer.new.files) c.replay_answer.result c.alone.result
    c.alone.ensures c.replay_answer.ensures
