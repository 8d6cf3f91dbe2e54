use Rattle.std.proofs.Common.{◌≡◌, ◌++◌, replicate}
use Rattle.chain_files.specs.Content.{not_given}
use Rattle.chain_files.proofs.gathered.extend_entries.Given as goal

abbrev pub invariant-loop : goal.invariant-loop
invariant-loop l = l.entries.items ≡ l.fn.entries.items ++ replicate l.counter not_given
