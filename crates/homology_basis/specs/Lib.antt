pub mod Bases
pub mod Classes
pub mod Marks
