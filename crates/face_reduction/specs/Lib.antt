pub mod Logs
pub mod Cofaces
pub mod Laws
