pub mod OrdersLemmas
pub mod WorkersLemmas
