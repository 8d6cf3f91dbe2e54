pub mod Selections
pub mod Renumbered
pub mod Multiples
pub mod Fillings
pub mod Right
pub mod Laws
