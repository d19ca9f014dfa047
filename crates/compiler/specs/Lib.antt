pub mod Layouts
pub mod Emitting
pub mod Translating
pub mod Cards
