mod PiecesLemmas
mod BlocksLemmas
mod HomesLemmas
mod RowsLemmas
