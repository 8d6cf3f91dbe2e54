use Rattle.std.proofs.Common.{◌≡◌, take}
use Rattle.witness_scanning.specs.Numbers.{clipped, value_of}
use Rattle.witness_scanning.proofs.numbers.value.Given as goal

abbrev pub invariant-loop-digit : goal.invariant-loop-digit
invariant-loop-digit l = l.value ≡ clipped (value_of (take l.digit-index l.digits))
