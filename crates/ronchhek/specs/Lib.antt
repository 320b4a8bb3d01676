pub mod Verdicts
pub mod Replays
pub mod Services
pub mod Sessions
pub mod Tables
pub mod Practices
pub mod Cuts
pub mod Files
