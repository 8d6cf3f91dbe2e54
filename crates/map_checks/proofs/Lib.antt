pub mod Firsts
pub mod Leaving
pub mod Narrowing
pub mod Hollow
pub mod Moving
pub mod Shaping
pub mod Keeping
