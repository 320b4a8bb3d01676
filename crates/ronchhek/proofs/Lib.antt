-- Laws that several proofs cite.
pub mod VerdictLaws
pub mod ReplayLaws
pub mod ServiceLaws
pub mod TableLaws
pub mod PracticeLaws
pub mod CutLaws
pub mod FileLaws
