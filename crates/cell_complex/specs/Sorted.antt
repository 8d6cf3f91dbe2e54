-- Lists of cells in order, as they are numbered, and the cells that another list has not: defined
-- where cells are kept.
pub use Rattle.cell_points.specs.Sorted.{IsSortedCells, without}
