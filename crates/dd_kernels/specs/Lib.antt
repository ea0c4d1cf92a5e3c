pub mod Agreement
pub mod Lists
pub mod Matrices
pub mod Names
pub mod Packed
pub mod Shapes
pub mod Signatures
pub mod Table
