-- What words ask of all tools.
pub mod Jobs
pub mod Refusals
pub mod Lines
