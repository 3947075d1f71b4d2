-- Laws for writes.
pub mod Writing
pub mod Zeroing
pub mod Putting
