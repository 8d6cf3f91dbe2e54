use Rattle.std.proofs.Common.{arith}
use Rattle.std.proofs.lemmas.List.{length-take}
use Rattle.chain_files.proofs.making.number_in_degree.Goals as goal

pub overflow_add-result : goal.overflow_add-result
overflow_add-result c = omega (arith, c.count_degree.ensures.few, length-take c.args.generator c.args.degrees.now, c.ranges.generator)
