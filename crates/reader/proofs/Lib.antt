pub mod Fields
pub mod Stacks
pub mod Scopes
pub mod Lets
pub mod Sequels
pub mod Whole
