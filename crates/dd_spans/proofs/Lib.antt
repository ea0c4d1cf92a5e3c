pub mod RisingLemmas
pub mod MembersLemmas
pub mod NumbersLemmas
pub mod CutLemmas
pub mod MergeLemmas
pub mod RunLemmas
pub mod PlaceMapLemmas
mod NumbersExamples
