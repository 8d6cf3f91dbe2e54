pub mod Fillings
pub mod Images
pub mod Cells
