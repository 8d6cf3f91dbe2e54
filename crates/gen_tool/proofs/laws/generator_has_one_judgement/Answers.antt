use Rattle.gen_tool.proofs.Judging.{holes_once}
use Rattle.gen_tool.proofs.laws.generator_has_one_judgement.Goals as goal

pub returns : goal.returns
returns c = holes_once
