pub use Rattle.dd_causes.specs.Counts
pub use Rattle.dd_causes.specs.Appended
pub mod Taken
pub mod Memory
pub mod Edge
