mod SetLemmas
mod FinishLemmas
mod RowsLemmas
mod PlacesLemmas
