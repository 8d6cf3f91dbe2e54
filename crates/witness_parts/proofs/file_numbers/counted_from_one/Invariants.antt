use Rattle.std.proofs.Common.{◌≡◌, take}
use Rattle.witness_parts.specs.Filed.{from_one}
use Rattle.witness_parts.proofs.file_numbers.counted_from_one.Given as goal

abbrev pub invariant-loop-place : goal.invariant-loop-place
invariant-loop-place g l = l.terms.items ≡ from_one (take l.place l.chain)
