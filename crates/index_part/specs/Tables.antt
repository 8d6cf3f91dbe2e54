-- Matrices as rows.
use Rattle.std.specs.Prelude.{◌≡◌, ℕ, ◌<◌, List, [], slice_index, slice_index_or}
use Rattle.leray_conley.specs.Tables.{Table, entry}
use Rattle.leray_conley.specs.Ranks.{IsRank}
use Rattle.index_part.specs.Filled.{IsFilled}

-- the entry in row i and column j of these rows
abbrev pub entry_of : List (List ℕ) → ℕ → ℕ → ℕ
entry_of rows i j = slice_index (slice_index_or rows i []) j

-- the rows have the entries of the matrix f, which has so many rows and columns; they are below p
abbrev pub HaveEntries : ℕ → ℕ → ℕ → (ℕ → ℕ → ℕ) → List (List ℕ) → Type 0
HaveEntries p rows columns f =
    IsFilled [] (λ i. IsFilled 0 (λ j v. (v ≡ f i j) × (v < p)) columns) rows

-- the row i of the matrix, whose entries are below p
abbrev pub IsRowOf : ℕ → Table → ℕ → List ℕ → Type 0
IsRowOf p m i = IsFilled 0 (λ j v. (v ≡ entry m i j) × (v < p)) m.columns

-- the rows of the matrix
abbrev pub AreRowsOf : ℕ → Table → List (List ℕ) → Type 0
AreRowsOf p m = IsFilled [] (IsRowOf p m) m.rows

abbrev pub IsRankOf : ℕ → Table → ℕ → Type 0
IsRankOf p m = IsRank p m.rows m.columns (entry m)
