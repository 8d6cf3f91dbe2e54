pub mod Testing
pub mod Lining
pub mod Termwise
pub mod Judging
pub mod Telling
pub mod Parting
pub mod Loops
pub mod Wholes
