pub mod Terms
pub mod Packed
pub mod Homology
pub mod ChainComplex
pub mod Refusal
pub mod Laws
