-- What is left to show of `copy_from`.
use Rattle.std.proofs.Common.{drop, length-take, arith}
use Rattle.outside.proofs.Held.{front_of}
use Rattle.outside.proofs.memory.files.copy_from.Goals as goal

pub returns-clause-bytes : goal.returns-clause-bytes
returns-clause-bytes c = record {
  front = front_of c.args.at c.min-n.result c.args.bytes.now c.copy_from_slice.new.self (drop c.min-n.result c.args.buf.now)
      c.copy_from_slice.ensures.after (omega (arith, length-take c.min-n.result c.args.buf.now));
  end = λ z r. omega arith;
}
