pub mod Modular
pub mod Sums
pub mod Table
pub mod Solutions
