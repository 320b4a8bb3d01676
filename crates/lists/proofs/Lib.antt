-- Laws that the proofs of every layer cite.
pub mod Bools
pub mod Picks
pub mod Turns
pub mod Digits
pub mod Fill
pub mod Made
pub mod Counts
