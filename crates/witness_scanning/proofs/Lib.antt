pub mod Digits
pub mod Behind
pub mod Progress
pub mod Chains
pub mod Entries
pub mod Whole
