-- What the loop of `digits` keeps, and what it counts down.
use Rattle.std.proofs.Common.{◌≡◌, ◌≤◌, ◌-◌, ◌^◌, length, min, drop}
use Rattle.outside.specs.Tokens.{digits_value, digits_of}
use Rattle.outside.proofs.lexer.digits.Given as goal

abbrev pub invariant-loop-rest : goal.invariant-loop-rest
invariant-loop-rest l = record {
  value : min (digits_value l.value (digits_of l.rest)) (2 ^ 64 - 1) ≡ min (digits_value 0 (digits_of l.bytes)) (2 ^ 64 - 1);
  small : l.value ≤ 2 ^ 64 - 1;
  rest : drop (length (digits_of l.rest)) l.rest ≡ drop (length (digits_of l.bytes)) l.bytes;
}

abbrev pub decreases-loop-rest : goal.decreases-loop-rest
decreases-loop-rest l = length l.rest
