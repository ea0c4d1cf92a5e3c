pub mod MovesLemmas
pub mod CopiesLemmas
pub mod OrdersLemmas
pub mod WritesLemmas
pub mod StepsLemmas
