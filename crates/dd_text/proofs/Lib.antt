pub mod RowLemmas
pub mod BandLemmas
