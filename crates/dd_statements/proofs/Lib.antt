pub mod OrdersLemmas
pub mod AddsLemmas
pub mod StateLemmas
pub mod WithinLemmas
pub mod MayLemmas
pub mod LoopLemmas
