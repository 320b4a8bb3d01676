-- Laws of one job's numbers that several proofs cite, here and in the layers above.
pub mod Signed
pub mod Places
