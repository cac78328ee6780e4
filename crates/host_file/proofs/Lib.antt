pub mod Events
pub mod Refuted
pub mod Taken
