pub mod Section
pub mod Cell
