-- Known texts at the front of others.
use Rattle.std.specs.Prelude.{◌≢◌, ℕ, List, ◌++◌}
use Rattle.witness_laws.specs.Lines.{numbers_text}

abbrev pub BeginsOtherwise : List ℕ → List ℕ → Type 0
BeginsOtherwise bytes front = (rest : List ℕ) → bytes ≢ front ++ rest

-- a word, numbers and a mark
abbrev pub numbers_front : List ℕ → List ℕ → List ℕ → List ℕ
numbers_front word ns mark = word ++ numbers_text ns ++ mark
