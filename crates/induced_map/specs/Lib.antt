pub mod Pairs
pub mod Within
pub mod Laws
pub mod Entries
pub mod Lists
pub mod Images
pub mod Matrices
