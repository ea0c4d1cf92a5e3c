pub mod Numbers
pub mod CopyTables
