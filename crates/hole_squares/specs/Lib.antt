-- Squares with holes, and how many they are.
pub mod Holes
pub mod Columns
pub mod Counts
