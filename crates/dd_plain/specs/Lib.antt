pub mod Lists
pub mod Sizes
pub mod Walks
pub mod Lending
pub mod Runs
pub mod Rows
