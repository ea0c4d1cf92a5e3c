pub mod ListsLemmas
pub mod SumsLemmas
pub mod RisingLemmas
pub mod SignedLemmas
pub mod VectorsLemmas
pub mod PartitionLemmas
