pub mod BuffersLemmas
