-- What the tool on witness files is asked to do.
pub mod Inputs
pub mod Right
pub mod Refusals
pub mod Jobs
pub mod Answered
