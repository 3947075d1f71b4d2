-- The laws that the functions' proofs cite.
pub mod Headers
pub mod Images
pub mod Plans
pub mod Answers
