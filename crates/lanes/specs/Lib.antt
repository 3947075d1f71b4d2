-- What marking chains side by side answers and leaves.
pub mod Lanes
pub mod Answers
