-- What is printed on squares with holes, and when it is right.
use Rattle.std.specs.Prelude.{◌≡◌, ℕ, List, [], ◌++◌, length, codes, decimal}
use Rattle.cube_sets.specs.Sets.{Members}
use Rattle.cell_complex.specs.CellCount.{cell_count}
use Rattle.faults.specs.ChainText.{cell_text}
use Rattle.report.specs.ReportText.{group_lines}
use Rattle.basis_reports.specs.Right.{HasDimensions}
use Rattle.hole_squares.specs.Holes.{IsHoleSet}
use Rattle.gen_tool.specs.declared.summary.Summary.{Summary}

-- the number n, how many squares with n by n holes there are, how many cells they have, and the
-- dimensions of their homology modulo p in the degrees from 0 to 2
pub record IsRightSummary (p n : ℕ) (summary : Summary) : Type 0 where
  pub set : Members
  pub is_set : IsHoleSet n set
  pub holes : summary.holes ≡ n
  pub squares : summary.squares ≡ length set.cells
  pub cells : summary.cells ≡ cell_count set.cells
  pub dimensions : HasDimensions p 2 set.cells [] summary.homology.dimensions

-- the line on the squares and their cells
abbrev pub summary_line : Summary → List ℕ
summary_line summary = codes "holes " ++ decimal summary.holes ++ codes ": "
    ++ decimal summary.squares ++ codes " cubes, " ++ decimal summary.cells ++ codes " cells\n"

-- that line, and those on the homology groups
abbrev pub summary_text : ℕ → Summary → List ℕ
summary_text p summary =
    summary_line summary ++ group_lines cell_text p summary.homology.dimensions []
