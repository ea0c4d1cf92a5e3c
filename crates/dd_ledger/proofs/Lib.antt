pub mod FactsLemmas
pub mod PicksLemmas
pub mod EndingsLemmas
pub mod EnteredLemmas
pub mod GrowsLemmas
