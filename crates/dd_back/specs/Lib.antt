pub mod Backs
pub mod Steps
