pub mod Charges
pub mod Updates
pub mod Elements
