pub mod Columns
pub mod Each
pub mod Restricting
pub mod Entering
pub mod Making
