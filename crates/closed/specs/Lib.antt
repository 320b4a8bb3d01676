pub mod Closed
pub mod Keeping
