pub mod Views
pub mod Facts
pub mod Quiet
pub mod Holdings
pub mod Users
pub mod Carried
pub mod Added
pub mod Works
