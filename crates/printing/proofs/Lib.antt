pub mod Lexing
pub mod Words
pub mod Deriving
pub mod Examples
