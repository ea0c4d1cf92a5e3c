pub mod Computing
mod RowExamples
pub mod RowLegal
pub mod EveryPlan
mod EveryExamples
mod EveryLegal
pub mod RowWellFormed
pub mod ChangesLemmas
pub mod RangesLemmas
pub mod RunsLemmas
pub mod PropsLemmas
pub mod ProgressLemmas
pub mod TestsLemmas
pub mod TotalsLemmas
pub mod CalmLemmas
