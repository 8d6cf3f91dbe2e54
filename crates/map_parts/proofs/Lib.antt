pub mod Contracting
pub mod Selecting
pub mod Contracted
pub mod Imaged
pub mod Produced
pub mod Tabled
pub mod Meeting
pub mod Holding
