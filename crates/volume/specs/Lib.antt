-- What the stages of validation are called with, answer and leave.
pub mod Groups
pub mod Passed
pub mod Opened
