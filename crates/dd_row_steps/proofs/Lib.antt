pub mod ChangesLemmas
pub mod StartLemmas
