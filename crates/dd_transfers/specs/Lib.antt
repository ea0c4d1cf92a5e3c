pub mod Homes
pub mod Marks
pub mod Visits
pub mod Rest
