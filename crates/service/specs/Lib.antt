pub mod Totals
pub mod Bytes
pub mod Raised
