pub mod Session
pub mod Record
