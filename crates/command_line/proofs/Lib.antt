pub mod Tables
pub mod Wholes
pub mod Orders
pub mod Values
