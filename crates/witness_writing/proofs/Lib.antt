pub mod Counting
pub mod Grouping
pub mod Pairs
pub mod Filling
pub mod Tables
pub mod Whole
