pub mod Beginnings
pub mod Check
pub mod Input
pub mod Lines
pub mod Replay
pub mod Sessions
pub mod Status
