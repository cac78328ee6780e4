mod Walks
mod Unnoticed
mod Together
pub mod Isolated
pub mod Several
pub mod Many
