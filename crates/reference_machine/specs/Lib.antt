pub mod Regions
pub mod Made
pub mod Calls
