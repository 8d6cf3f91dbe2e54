pub mod Lists
pub mod Grids
pub mod Making
pub mod Counted
pub mod Closed
