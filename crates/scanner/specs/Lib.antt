pub mod Idle
pub mod Unmerged
