pub mod Causes
pub mod Asks
pub mod Held
pub mod Bands
pub mod Writes
pub mod Gives
