pub mod Filling
pub mod Imaging
pub mod Sides
pub mod Celling
pub mod Looping
