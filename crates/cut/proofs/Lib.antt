-- Laws that several proofs cite, and the theorems.
pub mod CutLaws
pub mod MaskLaws
pub mod TickLaws
pub mod IdleLaws
pub mod TableLaws
pub mod Theorems
