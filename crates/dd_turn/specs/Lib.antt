pub mod Found
pub mod Locks
pub mod Seats
pub mod Turn
