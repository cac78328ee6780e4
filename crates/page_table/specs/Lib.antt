pub mod Limits
pub mod State
pub mod Changes
pub mod Table
pub mod View
pub mod Reads
pub mod Tallies
pub mod Pins
