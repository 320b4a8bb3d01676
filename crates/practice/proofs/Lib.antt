-- Laws that several proofs cite, and the theorems.
pub mod DrawLaws
pub mod Theorems
