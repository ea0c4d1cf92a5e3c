pub mod Cores
pub mod Finals
pub mod Lines
pub mod Due
pub mod Stale
