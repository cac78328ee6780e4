pub mod Elements
pub mod NewMaps
pub mod Answers
pub mod Begins
pub mod Faults
pub mod ShapesRead
