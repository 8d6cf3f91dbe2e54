-- Operands that are no names of files.
use Rattle.std.specs.Prelude.{ℕ, List, [], ◌∷◌, Option, None, Some, codes, decimal, if◌then◌else◌}
use Rattle.std.specs.List.{range_with_len}
use Rattle.std.specs.Str.{bytes_eq}

-- the first entry of a list that has this name
abbrev pub named : {A : Type 0} → (A → List ℕ) → List A → List ℕ → Option A
named name_of [] word = None
named name_of (x ∷ xs) word = if bytes_eq word (name_of x) then Some x else named name_of xs word

-- the number from 1 to 527 that is written so, in decimal without sign and leading zero
unfoldable pub hole_number : List ℕ → Option ℕ
hole_number word = named decimal (range_with_len 1 527) word

-- the number of holes that operands name: they are the word `holes` and that number
abbrev pub holes_named : List (List ℕ) → Option ℕ
holes_named (word ∷ number ∷ []) =
    if bytes_eq word (codes "holes") then hole_number number else None
holes_named operands = None
