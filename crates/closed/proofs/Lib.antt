-- Laws that several proofs cite.
pub mod FileLaws
pub mod PassLaws
pub mod InsideLaws
pub mod Theorems
pub mod PendingLaws
pub mod RowLaws
pub mod AnswerLaws
pub mod SoundLaws
pub mod Ranges
