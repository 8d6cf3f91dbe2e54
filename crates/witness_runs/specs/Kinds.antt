-- Cells by their numbers and kinds: a table has the kind of each cell, in order.
use Rattle.std.specs.Prelude.{◌≡◌, ℕ, ◌-◌, ◌<◌, ◌≤◌, List, [], ◌∷◌, length, slice_index}

-- the number, counted from 1, names a cell of the kind
abbrev pub IsOfKind : List ℕ → ℕ → ℕ → Type 0
IsOfKind kinds wanted n = (0 < n) × (n ≤ length kinds) × (slice_index kinds (n - 1) ≡ wanted)

-- each term does
abbrev pub NamesKind : List ℕ → ℕ → List (ℕ × ℕ) → Type 0
NamesKind kinds wanted [] = Unit {0}
NamesKind kinds wanted (t ∷ ts) = IsOfKind kinds wanted t.0 × NamesKind kinds wanted ts
