use Rattle.std.proofs.Common.{rules, arith}
use Rattle.algebraic_reduction.specs.Reduction.{IsUnpaired}
use Rattle.algebraic_reduction.proofs.Dimension.{generator_on_left}
use Rattle.homology_tests.proofs.log_tests.include_if.Goals as goal

pub include-requires : goal.include-requires
include-requires g c =
    let alive : IsUnpaired c.args.log.now.steps c.args.generator = search rules in
    ((omega arith), ((omega arith), ((omega arith), generator_on_left g.row.P c.args.generator c.args.log.now.steps c.in_ok-chain.chain alive c.in_ok-chain.ensures.sum)))
