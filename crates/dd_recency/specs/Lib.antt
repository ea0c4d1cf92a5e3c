pub mod Recency
pub mod Victim
