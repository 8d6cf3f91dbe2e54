pub mod Kinds
pub mod Ends
pub mod Reading
pub mod Pairs
