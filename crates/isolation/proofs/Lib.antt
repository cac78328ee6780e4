pub mod Happenings
pub mod Changes
pub mod Alike
pub mod Leaving
pub mod Making
pub mod Stepping
pub mod Chains
pub mod Isolated
