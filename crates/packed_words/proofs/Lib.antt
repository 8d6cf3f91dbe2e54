pub mod Nibbles
pub mod Placed
pub mod Keys
