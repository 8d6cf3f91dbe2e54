-- The map that a map of pairs induces in homology: right reports, and what refuses them.
pub mod Bases
pub mod Right
pub mod Refusals
pub mod Reported
pub mod Jobs
