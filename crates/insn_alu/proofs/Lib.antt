pub mod Comparisons
pub mod Halves
pub mod Quotients
pub mod Small
