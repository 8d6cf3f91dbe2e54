pub mod Cells
pub mod Matrices
pub mod Whole
