pub mod Bytes
pub mod Flats
