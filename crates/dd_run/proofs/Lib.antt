pub mod JournalLemmas
mod SwapsLemmas
mod AtLemmas
mod NextLemmas
mod PutsLemmas
mod RowsLemmas
mod NamesLemmas
mod PrintsLemmas
mod WritesLemmas
mod TasksLemmas
mod TurnsLemmas
mod RegionLemmas
mod RowLemmas
mod TextsLemmas
mod SoFarLemmas
mod RunsLemmas
