mod Links
mod Codes
pub mod Operations
mod Blanks
mod Followed
