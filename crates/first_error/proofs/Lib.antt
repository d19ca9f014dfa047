pub mod Scans
pub mod Steps
pub mod Decided
