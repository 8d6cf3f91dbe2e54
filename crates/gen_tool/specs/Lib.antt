-- What the generator is asked to make.
pub mod Summaries
pub mod Jobs
