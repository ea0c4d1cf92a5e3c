pub mod StripLemmas
pub mod TouchedLemmas
pub mod TouchedPlanLemmas
pub mod SmallLemmas
