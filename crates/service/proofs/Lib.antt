-- Laws that several proofs cite, and the theorems.
pub mod Balance
pub mod Refusal
pub mod Counting
pub mod Playing
pub mod ByteLaws
