-- What the tool on chain files is asked to do.
pub mod Contents
pub mod Jobs
