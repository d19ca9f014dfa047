pub mod Layout
pub mod Writes
pub mod Chains
pub mod Steps
