pub mod Grouping
pub mod Made
pub mod Naming
pub mod Steps
