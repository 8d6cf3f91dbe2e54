-- The definitions that the contracts of `outside` cite.
pub mod Told
pub mod Handing
pub mod Causes
pub mod Disk
pub mod Seen
pub mod Real
pub mod Memory
pub mod Tokens
pub mod Scanning
pub mod Standing
pub mod Lexing
pub mod Decimal
