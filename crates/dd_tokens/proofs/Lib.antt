pub mod BytesLemmas
pub mod FrontLemmas
pub mod AtFrontLemmas
pub mod CuttingLemmas
pub mod TokensLemmas
pub mod TextLemmas
pub mod NumberLemmas
mod TokensExamples
