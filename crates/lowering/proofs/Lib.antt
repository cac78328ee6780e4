pub mod Moved
pub mod Steps
pub mod Running
pub mod Shortened
pub mod Refusals
