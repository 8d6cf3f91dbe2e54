pub mod Excision
pub mod Left
pub mod Numbers
pub mod Marks
pub mod Taking
pub mod Owners
pub mod Laws
pub mod Known
