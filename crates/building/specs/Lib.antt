pub mod Rules
pub mod Built
