pub mod OutcomesLemmas
