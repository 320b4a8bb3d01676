pub mod Lines
pub mod Judged
