-- Laws that several proofs cite.
pub mod KeyLaws
pub mod ColumnLaws
pub mod WordLaws
pub mod MaskTest
pub mod MaskLaws
pub mod SystemLaws
pub mod MissLaws
