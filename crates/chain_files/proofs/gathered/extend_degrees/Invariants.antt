use Rattle.std.proofs.Common.{◌≡◌, ◌++◌, replicate}
use Rattle.chain_files.proofs.gathered.extend_degrees.Given as goal

abbrev pub invariant-loop : goal.invariant-loop
invariant-loop l = l.degrees.items ≡ l.fn.degrees.items ++ replicate l.counter l.degree
