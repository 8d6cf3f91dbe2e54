pub mod Values
pub mod CarriedMaps
pub mod Contractions
pub mod Faults
pub mod Laws
pub mod Contracted
pub mod Deciding
