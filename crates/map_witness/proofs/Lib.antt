pub mod Limiting
pub mod Judging
pub mod Printing
pub mod Computing
