pub mod Bytes
pub mod Keys
pub mod Masks
pub mod Miss
pub mod System
