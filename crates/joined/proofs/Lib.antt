-- The theorems.
pub mod Theorems
