pub mod Values
pub mod Images
pub mod Maps
