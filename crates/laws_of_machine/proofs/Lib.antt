pub mod SoundLemmas
pub mod ClosedHomeLemmas
pub mod SpillsLawLemmas
pub mod MovedLawLemmas
pub mod NeverStuckLemmas
pub mod EndsLemmas
pub mod AskedLemmas
