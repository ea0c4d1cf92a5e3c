pub mod Counts
pub mod Appended
pub mod Steps
