pub mod CellsLemmas
pub mod PlacesLemmas
pub mod HeldLemmas
pub mod PlanLemmas
pub mod SpilledLemmas
pub mod OutsLemmas
pub mod Crossing
