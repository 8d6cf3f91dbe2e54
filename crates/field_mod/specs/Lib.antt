pub mod Modular
pub mod Moduli
pub mod Sums
