-- What the words of the command line say, and laws on it.
pub mod Operands
pub mod Forms
pub mod Words
pub mod Laws
