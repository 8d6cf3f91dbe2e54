-- How many squares there are around n by n holes, and how many cells they have.
use Rattle.std.specs.Prelude.{◌≡◌, ℕ, ◌+◌, ◌*◌, length}
use Rattle.cube_sets.specs.Sets.{Members}
use Rattle.cell_complex.specs.CellCount.{cell_count}
use Rattle.hole_squares.specs.Holes.{IsHoleSet}

abbrev pub square_number : ℕ → ℕ
square_number n = 3 * n * n + 4 * n + 1

abbrev pub cell_number : ℕ → ℕ
cell_number n = 15 * n * n + 24 * n + 9

-- the laws of these numbers
abbrev pub SquaresAreCounted : Type 0
SquaresAreCounted = (n : ℕ) (set : Members) → IsHoleSet n set → length set.cells ≡ square_number n

abbrev pub CellsAreCounted : Type 0
CellsAreCounted = (n : ℕ) (set : Members) → IsHoleSet n set → cell_count set.cells ≡ cell_number n
