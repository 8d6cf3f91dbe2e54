pub mod Products
pub mod Based
pub mod Alike
pub mod Meeting
pub mod Filing
pub mod Degrees
pub mod Placing
pub mod Holding
