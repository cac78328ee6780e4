pub mod Powers
pub mod Parts
pub mod Elements
pub mod Locations
pub mod Updates
pub mod Copies
