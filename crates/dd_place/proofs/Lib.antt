pub mod NumberedLemmas
pub mod RegionsLemmas
pub mod LoadsLemmas
pub mod SomeLemmas
pub mod OneLemmas
pub mod RisingLemmas
pub mod PremisesLemmas
pub mod HomesLemmas
pub mod NextLemmas
mod PlacementExamples
