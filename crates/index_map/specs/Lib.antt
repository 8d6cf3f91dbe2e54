pub mod Inclusion
pub mod Laws
pub mod Pairs
pub mod Faults
pub mod Combinations
pub mod Inverses
pub mod Deciding
