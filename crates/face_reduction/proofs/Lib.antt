pub mod Pairing
pub mod Finding
pub mod Taking
pub mod Turning
pub mod Tallying
pub mod Cofacing
