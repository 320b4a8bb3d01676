-- Laws that several proofs cite.
pub mod Sums
pub mod Model
