pub mod RoomLemmas
pub mod OrdersKept
pub mod WithinKept
pub mod PinsKept
pub mod LendsKept
pub mod SpillsLemmas
pub mod OrdersWhole
pub mod LimitsKept
