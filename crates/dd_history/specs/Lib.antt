pub mod Currents
pub mod Sets
pub mod Asked
