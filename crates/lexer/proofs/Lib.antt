pub mod Runs
pub mod Numerals
pub mod Lexes
