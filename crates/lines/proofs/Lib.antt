-- Laws that several proofs cite.
pub mod Digits
pub mod Places
pub mod LineLaws
pub mod Front
