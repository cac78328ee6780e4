pub mod Shape
pub mod Turns
pub mod Sides
pub mod Changes
pub mod Searches
pub mod Removals
