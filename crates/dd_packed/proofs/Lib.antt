pub mod ColumnsLemmas
pub mod PartsLemmas
pub mod ProductLemmas
pub mod SolutionLemmas
