pub mod Held
mod Bases
mod Turns
