pub mod Trees
pub mod Builds
