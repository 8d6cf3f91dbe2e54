pub mod Firsts
pub mod Narrowed
pub mod Shapes
pub mod Faults
pub mod Carriers
