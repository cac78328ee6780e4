pub mod Falling
pub mod Counting
pub mod Records
