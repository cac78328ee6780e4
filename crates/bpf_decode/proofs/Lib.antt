pub mod Accepted
pub mod Begins
pub mod Naming
pub mod Numbers
pub mod Numbering
pub mod Pairing
pub mod Walk
