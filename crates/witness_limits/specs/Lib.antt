-- The limits of a witness.
pub mod Limits
pub mod Maps
