pub mod Given
pub mod Testing
pub mod Sides
pub mod Claims
pub mod Mapped
