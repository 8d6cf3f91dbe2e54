pub mod Filling
pub mod Terms
pub mod Rows
pub mod Printed
pub mod Included
pub mod RightIndex
pub mod Refused
pub mod Judging
