pub mod Excised
pub mod Basing
pub mod Inducing
pub mod Complexes
pub mod Large
pub mod Judging
pub mod Computing
