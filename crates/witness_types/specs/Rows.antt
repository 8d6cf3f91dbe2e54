-- The rows of a matrix, as lists of entries.
use Rattle.std.specs.Prelude.{ℕ, List, [], ◌∷◌}
use Rattle.leray_conley.specs.Tables.{Table, entry}
use Rattle.witness_laws.specs.Lines.{each}

-- the entries of row r
abbrev pub row_of : Table → ℕ → List ℕ
row_of t r = each t.columns (λ s. entry t r s ∷ [])

-- row by row
abbrev pub rows_of : Table → List (List ℕ)
rows_of t = each t.rows (λ r. row_of t r ∷ [])
