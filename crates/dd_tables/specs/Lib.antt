pub mod Currents
pub mod Fetches
pub mod Places
pub mod Tables
pub mod Shares
pub mod Sized
