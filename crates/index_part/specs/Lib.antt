-- The index part of a report on a map of pairs: what is right, and what refuses it.
pub mod Filled
pub mod Tables
pub mod Right
pub mod Refusals
pub mod Made
