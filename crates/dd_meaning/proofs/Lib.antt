pub mod LatestLemmas
pub mod DependencyLemmas
pub mod RegionTasksLemmas
pub mod RegionRowsLemmas
pub mod HomesLemmas
pub mod TextLemmas
pub mod SmallPlans
mod MovesExamples
mod StepsExamples
pub mod FillLemmas
pub mod WorldLemmas
pub mod ValuesLemmas
pub mod StoredLemmas
