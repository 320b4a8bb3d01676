-- Laws that several proofs cite, and the theorems.
pub mod MarkLaws
pub mod CallLaws
pub mod Theorems
