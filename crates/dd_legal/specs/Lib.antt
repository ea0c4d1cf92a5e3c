pub mod Homes
pub mod Starts
