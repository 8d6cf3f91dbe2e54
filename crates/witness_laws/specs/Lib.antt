pub mod Sections
pub mod Lines
pub mod Formats
pub mod Inputs
pub mod Parts
pub mod Tables
pub mod Laws
