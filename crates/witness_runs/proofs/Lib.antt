pub mod Naming
pub mod Running
pub mod Cycling
pub mod Rowing
