-- What the tool on the values of maps is asked to do.
pub mod Counted
pub mod Jobs
