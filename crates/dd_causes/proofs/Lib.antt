pub mod AppendedLemmas
pub mod CountsLemmas
pub mod StepsLemmas
