-- Laws that other crates cite.
pub mod Bytes
pub mod LayoutLaws
pub mod RoundTrip
pub mod RunningLaws
pub mod WriteLaws
