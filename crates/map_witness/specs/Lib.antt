-- The map that a map of pairs induces in homology, with a witness: what refuses it, and what is made.
pub mod Refusals
pub mod Witnesses
pub mod Bases
pub mod Jobs
