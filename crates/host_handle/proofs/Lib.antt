pub mod Values
pub mod Pointers
pub mod Answering
pub mod Buffers
pub mod Textual
pub mod WrittenMaps
pub mod Reasons
pub mod InOrder
