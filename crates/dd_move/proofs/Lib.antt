mod MovesLemmas
mod FreesLemmas
mod ShiftsLemmas
