pub mod Headers
pub mod Inputs
pub mod Rows
pub mod Parts
pub mod Texts
pub mod Answers
