pub mod Scopes
pub mod Stacks
pub mod Opened
pub mod Lets
pub mod Steps
pub mod Outcomes
