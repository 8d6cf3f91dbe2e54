-- How a form and a command of `clap` read the same words.
pub mod Rules
pub mod Rows
pub mod Texts
pub mod Choices
pub mod Said
pub mod Turns
pub mod Steps
pub mod Ends
pub mod Walking
pub mod Reading
pub mod InTable
pub mod Finding
pub mod Answering
