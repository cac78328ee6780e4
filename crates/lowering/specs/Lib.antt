pub mod Covering
pub mod Laws
pub mod Lowering
