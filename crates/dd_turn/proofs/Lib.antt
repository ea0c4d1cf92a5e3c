pub mod ViewsLemmas
pub mod StepsLemmas
