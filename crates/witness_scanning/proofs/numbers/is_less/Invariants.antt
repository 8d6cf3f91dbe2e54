use Rattle.std.proofs.Common.{◌≡◌, ◌<◌, take}
use Rattle.std.specs.Ordering.{MatchOrdering}
use Rattle.witness_scanning.specs.Numbers.{AreDigits, value_of}
use Rattle.witness_scanning.proofs.numbers.is_less.Given as goal

abbrev pub invariant-loop-i : goal.invariant-loop-i
invariant-loop-i l = AreDigits l.a → AreDigits l.b
    → MatchOrdering l.order (value_of (take l.i l.a) < value_of (take l.i l.b)) (value_of (take l.i l.a) ≡ value_of (take l.i l.b)) (value_of (take l.i l.b) < value_of (take l.i l.a))
