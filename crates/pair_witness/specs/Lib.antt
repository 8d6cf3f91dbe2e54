-- What the tool on pairs is asked to do where a witness is written.
pub mod Witnesses
pub mod Bases
pub mod Jobs
