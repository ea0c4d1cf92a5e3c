pub mod Keys
pub mod Cells
pub mod Places
pub mod Held
pub mod Copies
pub mod Spilled
pub mod Outs
pub mod Pools
