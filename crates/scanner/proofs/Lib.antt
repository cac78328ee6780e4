pub mod Visits
pub mod Idle
