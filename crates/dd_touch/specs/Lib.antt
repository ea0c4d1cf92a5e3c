pub mod Strips
pub mod Touching
pub mod Small
