-- The laws of creation.
pub mod Places
pub mod Found
pub mod Writing
pub mod Answers
