-- Laws of answers.
pub mod Refusals
