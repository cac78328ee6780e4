pub mod Reserve
pub mod Refusals
