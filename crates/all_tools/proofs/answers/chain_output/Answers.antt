use Rattle.chain_tool.specs.Jobs.{chain_job}
use Rattle.tool.proofs.Lifting.{lifts}
use Rattle.all_tools.specs.Jobs.{chain_of}
use Rattle.all_tools.proofs.answers.chain_output.Goals as goal

pub returns : goal.returns
returns g c =
    lifts (chain_job (chain_of c.args.command.now)) (g.F.Files.seen c.args.files.now) (g.F.Files.seen c.chain_answer.new.files) c.chain_answer.result c.alone.result
    c.alone.ensures c.chain_answer.ensures
