pub mod Moves
pub mod Names
