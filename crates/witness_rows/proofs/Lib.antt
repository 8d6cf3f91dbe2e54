pub mod Imaged
pub mod Judging
