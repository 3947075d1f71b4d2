-- What the code of a repair answers and requires.
pub mod Replies
pub mod Room
