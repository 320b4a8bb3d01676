pub mod Layout
pub mod Running
pub mod StateSpace
