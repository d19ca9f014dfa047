pub mod Trees
pub mod Frames
pub mod Bounds
pub mod Opened
pub mod Sounds
pub mod Completes
pub mod Texts
pub mod Examples
