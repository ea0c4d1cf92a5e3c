pub mod RecencyLemmas
pub mod CacheLemmas
pub mod BackwardsLemmas
pub mod VictimLemmas
mod VictimExamples
