pub mod Journals
pub mod Texts
pub mod Rows
pub mod Runs
pub mod Gives
pub mod Puts
