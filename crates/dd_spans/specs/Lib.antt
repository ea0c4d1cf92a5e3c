pub mod Numbers
pub mod SortedNumbers
pub mod NextRun
pub mod PlaceMap
pub mod Kept
