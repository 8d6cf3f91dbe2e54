pub mod Judging
pub mod Computing
