-- Lemmas by topic.
pub mod Absent
pub mod Gaining
pub mod Held
pub mod Lexing
pub mod Runs
pub mod ScanningLemmas
pub mod Streams
