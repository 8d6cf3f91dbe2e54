-- The cells of domain and range of a map, and its images.
use Rattle.std.specs.Prelude.{◌≡◌, ℕ, List}
use Rattle.elem_cubes.specs.Cells.{Factor}
use Rattle.cell_complex.specs.Sorted.{IsSortedCells}
use Rattle.cell_complex.specs.Numbering.{IsComplexOf}
use Rattle.witness_sections.specs.Readings.{AreRead}
use Rattle.witness_values.specs.declared.cells.MapSides.{MapSides}

-- the cells of domain and range with their complexes, and the images over these cells
pub record AreSides {p : ℕ} (domain range : List (List Factor)) (chains : List (List (ℕ × ℕ)))
    (s : MapSides p) : Type 0 where
  pub domain_cells : s.domain ≡ domain
  pub all : s.range ≡ range
  pub sorted : IsSortedCells range
  pub domain_complex : IsComplexOf p domain s.domain_complex
  pub range_complex : IsComplexOf p range s.range_complex
  pub images : AreRead p range range chains s.images.items
