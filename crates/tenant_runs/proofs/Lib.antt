pub mod Rooms
pub mod Pinning
pub mod Shapes
pub mod Finishing
pub mod WholeRuns
pub mod Roomy
pub mod Storing
pub mod OnMaps
