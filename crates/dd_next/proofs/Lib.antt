pub mod FirstLemmas
pub mod LeftLemmas
pub mod CandidatesLemmas
