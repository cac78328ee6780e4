pub mod Knowledge
pub mod Rows
