pub mod Plans
pub mod Explanations
