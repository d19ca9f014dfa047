pub mod Lengths
pub mod Scanning
