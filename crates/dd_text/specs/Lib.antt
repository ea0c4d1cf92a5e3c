pub mod Bands
pub mod Writes
