-- Numbers at the front of a text.
use Rattle.std.specs.Prelude.{◌≡◌, ℕ, ◌+◌, ◌-◌, ◌^◌, min, List, []}
use Rattle.std.specs.Prelude.{◌∷◌, ◌++◌, map, Bool, true, false, not, ◌==◌}
use Rattle.std.specs.Char.{is_ascii_digit}
use Rattle.std.specs.Int.Digits.{number_from_digits}
use Rattle.witness_laws.specs.Lines.{numeral}

-- the text begins with no digit
abbrev pub NoDigit : List ℕ → Type 0
NoDigit [] = Unit {0}
NoDigit (c ∷ cs) = is_ascii_digit c ≡ false

abbrev pub AreDigits : List ℕ → Type 0
AreDigits [] = Unit {0}
AreDigits (c ∷ cs) = (is_ascii_digit c ≡ true) × AreDigits cs

-- digits that are a number without leading zeros
abbrev pub is_numeral : List ℕ → Bool
is_numeral [] = false
is_numeral (c ∷ []) = true
is_numeral (c ∷ d ∷ ds) = not (c == 48)

-- the number that digits write, and as much of it as is kept
abbrev pub value_of : List ℕ → ℕ
value_of cs = number_from_digits 10 (map (λ c. c - 48) cs)

abbrev pub clipped : ℕ → ℕ
clipped n = min n (2 ^ 32 - 1)

-- a number with these digits stands at the front, and the rest behind it
pub record HasNumber (bytes digits rest : List ℕ) : Type 0 where
  pub number : ℕ
  pub written : digits ≡ numeral number
  pub split : bytes ≡ digits ++ rest
  pub ends : NoDigit rest

abbrev pub HasNoNumber : List ℕ → Type 0
HasNoNumber bytes = (n : ℕ) (rest : List ℕ) → NoDigit rest → bytes ≡ numeral n ++ rest → ⊥

-- and behind a mark
pub record HasMarked (mark : ℕ) (bytes digits rest : List ℕ) : Type 0 where
  pub number : ℕ
  pub written : digits ≡ numeral number
  pub split : bytes ≡ mark ∷ (digits ++ rest)
  pub ends : NoDigit rest

abbrev pub HasNoMarked : ℕ → List ℕ → Type 0
HasNoMarked mark bytes = (n : ℕ) (rest : List ℕ) → NoDigit rest → bytes ≡ mark ∷
    (numeral n ++ rest) → ⊥

-- the numbers from low on are those above the one that these digits write; all numbers where there
-- are no digits
abbrev pub IsLast : List ℕ → ℕ → Type 0
IsLast [] low = low ≡ 0
IsLast (d ∷ ds) low = (n : ℕ) × (d ∷ ds ≡ numeral n) × (low ≡ n + 1)
