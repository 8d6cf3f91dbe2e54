-- Corners as texts.
use Rattle.std.specs.Prelude.{ℕ, ℤ, List, [], ◌∷◌, ◌++◌, drop}
use Rattle.std.specs.List.{flat_map}
use Rattle.outside.specs.Decimal.{decimal}

-- numbers, each behind a space
abbrev pub spaced : List ℤ → List ℕ
spaced zs = flat_map (λ z. 32 ∷ decimal z) zs

-- numbers separated by one space, in brackets
abbrev pub corner_text : List ℤ → List ℕ
corner_text zs = 40 ∷ drop 1 (spaced zs) ++ 41 ∷ []
