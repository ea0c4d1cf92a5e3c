pub use Rattle.dd_causes.specs.Counts
pub mod Encoded
pub mod Slots
pub mod Views
