pub mod Grammar
pub mod Laws
pub mod Examples
pub mod Formed
