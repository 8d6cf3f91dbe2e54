use Rattle.gen_tool.proofs.Computing.{squares_fit}
use Rattle.gen_tool.proofs.holes.set_answer.Goals as goal

pub write_set-requires : goal.write_set-requires
write_set-requires c = squares_fit c.args.n c.in_ok-set.set c.requires c.in_ok-set.ensures
