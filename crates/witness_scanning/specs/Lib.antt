pub mod Numbers
pub mod Fronts
pub mod Terms
pub mod Lines
