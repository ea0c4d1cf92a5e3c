pub mod CellsLemmas
