pub mod Answers
pub mod Updates
