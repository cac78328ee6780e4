pub mod Arithmetic
pub mod Comparisons
