use Rattle.gen_tool.proofs.Computing.{answered_alone}
use Rattle.gen_tool.proofs.holes.generate.Goals as goal

pub returns : goal.returns
returns g c = answered_alone c.args.job.now (g.F.Files.seen c.args._files.now) c.compute.result c.compute.ensures
