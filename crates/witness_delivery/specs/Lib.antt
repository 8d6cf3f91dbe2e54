-- What stands after a run that came to its writing.
pub mod Delivery
