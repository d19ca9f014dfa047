pub mod Lengths
pub mod Heights
pub mod Fed
pub mod Reached
pub mod Onward
