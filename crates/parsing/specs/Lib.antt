-- What stands for a form in `clap`, and what it finds there.
pub mod Syntax
pub mod Found
