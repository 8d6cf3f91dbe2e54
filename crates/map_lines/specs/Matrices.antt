-- The lines of the matrices: the rows of each degree that has columns.
use Rattle.std.specs.Prelude.{◌≡◌, ℕ, suc, ◌<◌, List, [], ◌∷◌, length, map, if◌then◌else◌, ◌==◌}
use Rattle.leray_conley.specs.Tables.{Table}
use Rattle.witness_types.specs.Parts.{beside, degrees_of}
use Rattle.witness_runs.specs.declared.miss.Stop.{Stop}
use Rattle.witness_runs.specs.Rows.{HasRows, StopsRows}

-- how many cycles have this degree
abbrev pub size_in : List (ℕ × List (ℕ × ℕ)) → ℕ → ℕ
size_in zs k = length (beside k (degrees_of zs) (map (λ z. z.1) zs))

-- how many lines the matrix of this height and width has
abbrev pub row_lines : ℕ → ℕ → ℕ
row_lines height width = if width == 0 then 0 else height

-- the matrix of degree k has this height and width, and the entries that stand at the front
pub record HasMatrix (p k height width : ℕ) (bytes : List ℕ) (t : Table)
    (rest : List ℕ) : Type 0 where
  pub rows : t.rows ≡ height
  pub columns : t.columns ≡ width
  pub has : HasRows p k width (row_lines height width) bytes t.entries rest

-- those of the degrees from k on
abbrev pub HasMatrices : ℕ → (ℕ → ℕ) → (ℕ → ℕ) → ℕ → List ℕ → List Table → List ℕ → Type 0
HasMatrices p height width k bytes [] rest = bytes ≡ rest
HasMatrices p height width k bytes (t ∷ ts) rest =
    (behind : List ℕ) × HasMatrix p k (height k) (width k) bytes t behind
    × HasMatrices p height width (suc k) behind ts rest

-- those of all degrees
pub record HasAllMatrices (p top : ℕ) (height width : ℕ → ℕ) (bytes : List ℕ) (ts : List Table)
    (rest : List ℕ) : Type 0 where
  pub many : length ts ≡ suc top
  pub matrices : HasMatrices p height width 0 bytes ts rest

-- behind those of some degrees the next one stops
pub record StopsInMatrices (p top : ℕ) (height width : ℕ → ℕ) (bytes : List ℕ) (stop : Stop)
    : Type 0 where
  pub before : List Table
  pub behind : List ℕ
  pub within : length before < suc top
  pub matrices : HasMatrices p height width 0 bytes before behind
  pub here : StopsRows p (length before) (width (length before))
      (row_lines (height (length before)) (width (length before))) behind stop
