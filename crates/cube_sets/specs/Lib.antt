pub mod Sorted
pub mod Sets
pub mod Changes
pub mod Closures
pub mod Neighbours
