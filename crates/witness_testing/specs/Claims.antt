-- The matrices of a claim, made of those that were read.
use Rattle.std.specs.Prelude.{◌≡◌, ℕ, ◌<◌, ◌≤◌, List, length, slice_index, slice_index_or}
use Rattle.leray_conley.specs.Tables.{Table}
use Rattle.witness_types.specs.Rows.{rows_of}

-- each matrix has at most 4096 rows, and where it has any, as many columns as are told for it, at
-- most 4096
pub record AreSmall (tables : List Table) (widths : List ℕ) : Type 0 where
  pub count : length tables ≡ length widths
  pub rows : (k : ℕ) (t : Table) → k < length tables → (slice_index_or tables k t).rows ≤ 4096
  pub few : (k : ℕ) → k < length widths → slice_index widths k ≤ 4096
  pub columns : (k : ℕ) (t : Table) → k < length tables → 0 < (slice_index_or tables k t).rows
      → (slice_index_or tables k t).columns ≡ slice_index widths k

-- the matrix has as many rows as the table, so many columns, and its entries
pub record IsMadeOf (t : Table) (columns : ℕ) (m : Table) : Type 0 where
  pub rows : m.rows ≡ t.rows
  pub width : m.columns ≡ columns
  pub entries : rows_of m ≡ rows_of t

-- so have the first matrices of a list
pub record AreMadeOf (tables : List Table) (columns : List ℕ) (n : ℕ) (ms : List Table)
    : Type 0 where
  pub count : length ms ≡ n
  pub each : (k : ℕ) (t : Table) → k < n
      → IsMadeOf (slice_index_or tables k t) (slice_index columns k) (slice_index_or ms k t)

-- the tables have as many rows as are told for them
pub record AreHigh (tables : List Table) (heights : List ℕ) : Type 0 where
  pub each : (k : ℕ) (t : Table) → k < length tables
      → (slice_index_or tables k t).rows ≡ slice_index heights k
