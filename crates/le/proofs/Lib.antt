-- Laws for the functions on bytes.
pub mod Zeros
