pub mod SoundLemmas
pub mod DueLemmas
