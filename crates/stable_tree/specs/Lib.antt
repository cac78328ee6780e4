pub mod Groups
pub mod Slots
pub mod Edits
pub mod Digits
