-- Laws that several proofs cite.
pub mod TagLaws
pub mod IndexLaws
pub mod ComputedLaws
pub mod HuntLaws
pub mod StoreLaws
pub mod RunLaws
pub mod ReportLaws
pub mod ClaimLaws
pub mod SameAnswers
pub mod SafeLaws
