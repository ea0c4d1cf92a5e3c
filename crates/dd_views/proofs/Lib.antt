pub mod SignedLemmas
pub mod NumberAtLemmas
pub mod ProgressionLemmas
pub mod SpanLemmas
pub mod SomeLemmas
pub mod TriangleLemmas
pub mod ListsLemmas
pub mod ColumnsLemmas
pub mod ViewLemmas
pub mod WayLemmas
pub mod ElementsLemmas
pub mod WithinLemmas
pub mod OnceLemmas
pub mod PositionsLemmas
pub mod WalkLemmas
mod IndexListExamples
