-- The rows of the matrix of one degree, and the images of the cycles.
use Rattle.std.specs.Prelude.{◌≡◌, ℕ, ◌<◌, List, [], ◌∷◌, length, slice_index_or}
use Rattle.field_mod.specs.Modular.{Same}
use Rattle.elem_cubes.specs.Cells.{Factor}
use Rattle.chains.specs.Terms.{coefficient, nth_chain}
use Rattle.chains.specs.ChainComplex.{boundary}
use Rattle.homology_basis.specs.Bases.{in_degree}
use Rattle.leray_conley.specs.Tables.{Table, entry}
use Rattle.witness_laws.specs.declared.law.WitnessFault.{WitnessFault}
use Rattle.witness_laws.specs.Lines.{range, Line, row, each}
use Rattle.witness_laws.specs.Inputs.{Given, x_of, a_of, all_cells, relative_cells}
use Rattle.witness_laws.specs.Parts.{range_cells}
use Rattle.witness_laws.specs.Tables.{Tables, map_of, holds}
use Rattle.witness_types.specs.Rows.{rows_of}
use Rattle.witness_sections.specs.Outcomes.{ArePassed, IsFaultAmong}
use Rattle.witness_sections.specs.Readings.{AreRead}

-- row g has at s the coefficient of g in the sum of the images, each times its coefficient in the
-- cycle s
abbrev pub AreProducts : ℕ → ℕ → List (List (ℕ × ℕ)) → List (List (ℕ × ℕ)) → List (List (ℕ × ℕ))
    → Type 0
AreProducts p count images cycles rows =
    (g s : ℕ) → g < count → Same p (nth_chain rows g s) (boundary images (nth_chain cycles s) g)

-- the relative cells of the range
abbrev pub target_cells : Given → List (List Factor)
target_cells G = relative_cells (x_of G range) (a_of G range)

-- what is read of a witness in degree k: the cycles of the domain over all its cells, the images
-- and
-- the cocycles of the range over its relative cells, and the matrix
pub record AreRowsOf (p : ℕ) (t : Table) (us zs rows cs : List (List (ℕ × ℕ)))
    (k : ℕ) (G : Given) (W : Tables) : Type 0 where
  pub count : length rows ≡ length (target_cells G)
  pub products : AreProducts p (length (target_cells G)) us zs rows
  pub images : AreRead p (range_cells G) (target_cells G) (map_of W).images us
  pub image_count : length (map_of W).images ≡ length (all_cells G.x G.a)
  pub cycles : AreRead p (all_cells G.x G.a) (all_cells G.x G.a) (in_degree W.domain.cycles k) zs
  pub cocycles : AreRead p (range_cells G) (target_cells G) (in_degree (map_of W).range.cocycles k)
      cs
  pub table : rows_of t ≡ slice_index_or (map_of W).matrices k []
  pub width : t.columns ≡ length (in_degree W.domain.cycles k)
  pub below : (r s : ℕ) → r < t.rows → s < t.columns → entry t r s < p

-- the row agrees with the values of a cocycle on the images
abbrev pub Agrees : Table → ℕ → List (ℕ × ℕ) → Type 0
Agrees t r values = (s : ℕ) → s < t.columns → entry t r s ≡ coefficient values s

-- the lines of the rows of degree k
abbrev pub rows_in : ℕ → Tables → List Line
rows_in k W = each (length (slice_index_or (map_of W).matrices k [])) (λ r. row k r ∷ [])

-- what is told of them, whatever witness has these rows
abbrev pub RowsPassed : ℕ → Table → List (List (ℕ × ℕ)) → List (List (ℕ × ℕ)) → ℕ → ℕ → Type 0
RowsPassed p t rows cocycles from behind =
    (images cycles : List (List (ℕ × ℕ))) (k : ℕ) (G : Given) (W : Tables)
    → AreRowsOf p t images cycles rows cocycles k G W
    → ArePassed (holds p G W) (rows_in k W) from behind

abbrev pub IsRowFault : ℕ → Table → List (List (ℕ × ℕ)) → List (List (ℕ × ℕ)) → ℕ → WitnessFault
    → Type 0
IsRowFault p t rows cocycles from fault =
    (images cycles : List (List (ℕ × ℕ))) (k : ℕ) (G : Given) (W : Tables)
    → AreRowsOf p t images cycles rows cocycles k G W
    → IsFaultAmong (holds p G W) (rows_in k W) from fault
