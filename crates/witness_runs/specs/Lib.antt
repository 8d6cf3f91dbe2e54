pub mod Kinds
pub mod Misses
pub mod Due
pub mod Cycles
pub mod Runs
pub mod Rows
