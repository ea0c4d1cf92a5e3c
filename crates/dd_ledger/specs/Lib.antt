pub mod Endings
pub mod Facts
pub mod Ledgers
pub mod Picks
