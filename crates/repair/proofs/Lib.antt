-- Laws of a repair's code.
pub mod Counting
pub mod Differing
pub mod Replies
pub mod Outcomes
pub mod Trying
pub mod Answers
