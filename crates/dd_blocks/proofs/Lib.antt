pub mod PiecesLemmas
pub mod GridLemmas
pub mod SizesLemmas
pub mod HomesLemmas
pub mod ArrayHomesLemmas
pub mod MovedSpacesLemmas
pub mod NumberedLemmas
pub mod ElementsLemmas
pub mod TouchedLemmas
pub mod LayoutLemmas
pub mod PlanElementsLemmas
mod GridExamples
mod HomesExamples
pub mod ShapesLemmas
