pub mod First
pub mod Candidates
pub mod Claims
