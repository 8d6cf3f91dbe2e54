-- The decimal text of a whole number.
use Rattle.std.specs.Prelude.{ℤ, List, ℕ}
use Rattle.std.specs.Fmt.{signed_decimal}

-- The decimal digits without leading zeros, behind `-` where the number is below 0.
abbrev pub decimal : ℤ → List ℕ
decimal n = signed_decimal n
