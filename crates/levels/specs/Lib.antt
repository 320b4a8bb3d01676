pub mod Compute
pub mod Index
pub mod Levels
pub mod Slots
pub mod Verdict
