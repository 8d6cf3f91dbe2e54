pub mod Prefixes
pub mod Heading
