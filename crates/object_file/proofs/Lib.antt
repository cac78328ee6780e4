pub mod Naming
pub mod Parts
pub mod Standing
