pub mod Typed
pub mod Places
pub mod Reached
pub mod Simulation
pub mod Laws
pub mod Calls
