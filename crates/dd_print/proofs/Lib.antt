pub mod HeldLemmas
pub mod DoneLemmas
mod BreaksLemmas
mod BringLemmas
mod BlocksLemmas
mod SumsLemmas
mod BandsLemmas
mod ThereLemmas
mod LoopsLemmas
mod WritesLemmas
mod RowsLemmas
