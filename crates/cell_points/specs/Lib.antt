pub mod Sorted
pub mod Masks
pub mod Places
