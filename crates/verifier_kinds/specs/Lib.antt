pub mod Kinds
pub mod Descriptions
pub mod Arithmetic
pub mod Refinement
pub mod Laws
pub mod Wide
