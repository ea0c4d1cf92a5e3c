pub mod Leading
pub mod Loads
pub mod Chosen
pub mod Placement
pub mod Premises
