-- Laws that several proofs cite, and the theorems.
pub mod SpaceLaws
pub mod CallLaws
pub mod Plain
pub mod Theorems
