use Rattle.std.proofs.Common.{arith}
use Rattle.chain_files.proofs.Grading.{value_graded, value_numbered}
use Rattle.chain_files.proofs.chain_file.read_complex.Goals as goal

pub made-requires : goal.made-requires
made-requires g c =
    let has = c.in_ok-known.ensures.value in (
      (omega arith),
      (
        (omega arith),
        (value_graded g.row.P c.args.bytes.now c.in_ok-known.known.content has, value_numbered g.row.P c.args.bytes.now c.in_ok-known.known.content has),
      ),
    )
