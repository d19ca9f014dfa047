pub mod Law
pub mod Answered
