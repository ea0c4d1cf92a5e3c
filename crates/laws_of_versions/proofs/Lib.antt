pub mod ConflictLemmas
pub mod DoneKept
pub mod ClosedLemmas
pub mod WhereLemmas
pub mod VersionsKept
pub mod SourceKept
pub mod ReadsKept
pub mod VersionsWhole
