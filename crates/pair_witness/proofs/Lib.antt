pub mod Judging
pub mod Witnessing
